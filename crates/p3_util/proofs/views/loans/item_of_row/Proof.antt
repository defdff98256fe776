-- The walk through the code of `item_of_row`. The borrow checker does not follow a loan from an
-- array to one of its items. So the array is taken apart into the items before, the one that is
-- lent and the items after it, and is put together again when the loan ends.
use Rattle.std.proofs.Common.{drop as drop_list}
use lib.Seq.{set_split, set-get_or}
use seplogic.Ra.Ura.{Ura}
use prog.Capped.{capped_is}
use prog.Routine.{Routine}
use prog.Wp.{Calls, Loops, WpFn}
use types.Logic.{Logic, sem}
use types.Mut.{open_ref}
use types.Follow.{takes_part}
use types.SemTy.{cells, Body}
use types.Kit.{Item as Entry}
use contract.Lifetimes.{AllOutlive}
use borrow.Table.Elements.{at, at_mul, cut_app, join_app, length-take-le}
use denote.ArrayMemory.{Array-apart, Array-whole}
use denote.Index.{row as side_by_side, whole_in, whole_out}
use denote.Triple.Entry.{on_entry}
use Rattle.p3_util.specs.contracts.views.loans.item_of_row.Key.{name as #self}
use Rattle.p3_util.proofs.Loans.{◌≡◌, refl, sym, ap, subst, ◌∙◌, ℕ, zero, suc, ◌+◌, ◌*◌, ◌^◌, ◌<◌, ◌≤◌, mul-le-mul_right, zero-mul, suc-mul, arith, List, [], ◌∷◌, ◌++◌, length, get_or, set, take, length-set, Fn, named, w64, inst_fn, Val, vptr, vint, SProp, ent, sep, ex, guard, full_share, Fml, fsep, feq, Lft, GName, Share, ftrue, flft, fobs, fbor, Memory, capped, size, ‵, ◌⊛◌, raw, given, some, later, ◌$◌, ◌∵◌, !, qed, by, move, keep, drop, split, split3, join, learn, fsplit, fsplit3, fjoin, fjoin3, use0, use1, use2, await, pick, suffices, frame, done, updating, group, now, show, rewrite, feq_i, feq_l, check, stop, addr, bin, size_word, returns, enter, alloc_all, pass_all, free_all, look_at, get, through, sets, is, ◌⊑◌, Fun, fact, tables, RefMutOf, usize, yes, no, follows, Array, mem, part_at, number, layout, uint_vals, uint_Tells, RattleType, owns, MutBor, MutRef, mut_vals, mut_Tells, plain, nothing, Clauses, Ended, Stays, stay_dropped, walk_of, ends_at, Goes-dropped, Goes-spent_ref, get_or_default, proved, inst, Item, Row, known}
use Rattle.p3_util.specs.contracts.views.loans.item_of_row as F
use Rattle.p3_util.proofs.views.loans.item_of_row.Statement as stated
use Rattle.p3_util.proofs.views.loans.item_of_row.Code as code

first_of : {A : Type 0} (xs : List A) → 0 < length xs → A
first_of [] any = absurd (omega arith)
first_of (x ∷ xs) any = x

-- `capped size` gives the same product with k as `size` does if that product fits 64 bits
uncapped : (k size : ℕ) → k * size < 2 ^ 64 → k * capped size ≡ k * size
uncapped zero size fits = zero-mul (capped size) ∙ sym (zero-mul size)
uncapped (suc k) size fits = let product = suc-mul k size in ap (λ (j : ℕ). suc k * j) (capped_is size (omega arith))

module _ (X : RattleType) (n : ℕ) where
  abbrev function : Fn
  function = inst_fn (inst X n) code.function

  abbrev ended : Ended
  ended = F.ended X (number n)

  abbrev stayed : Stays ended.signature.params ended.kept
  stayed = (stay_dropped (RefMutOf (0 ∷ []) tt (plain (λ _. Row X n)) (λ _. tt)) no, (stay_dropped (plain (λ _. usize)) yes, tt))

module _ (X : RattleType) (n : ℕ) {M : Type 1} {𝓤 : Ura M} (𝓛 : Logic 𝓤) where
  open 𝓛 use {H, A}

  module _ (κ : Lft) (q : Share) (b o : ℕ) (γ : GName) (xs : List X.Denot) (i : ℕ) where
    abbrev s : ℕ
    s = size (layout X)

    -- where item i is in memory
    abbrev spot : ℕ
    spot = i * s + o

    abbrev before : List X.Denot
    before = take i xs

    abbrev behind : List X.Denot
    behind = drop_list (suc i) xs

    abbrev items : List X.Denot → ℕ → Fml
    items ws = cells (mem (Item X n)) ws b

    abbrev Others : SProp 𝓤
    Others = sep 𝓤 (sem 𝓛 (items before o)) (sem 𝓛 (items behind (spot + s)))

    -- an array in memory consists of its n items side by side
    apart : (ws : List X.Denot) → ent 𝓤 (sem 𝓛 ((mem (Row X n)).own_at ws b o)) (guard 𝓤 (length ws ≡ n) (sem 𝓛 (items ws o)))
    apart ws = qed 𝓛 (‵ (part_at (Array (Item X n) n) full_share ws b o) ∷ []) ∵
        use1 𝓛 (‵ (fsep (feq ℕ (length ws) n) (side_by_side (Item X n) full_share ws b o))) (Array-apart 𝓛 (Item X n) full_share tt n ws b o) $
        fsplit ! $ feq_l ! (λ long. use1 𝓛 (‵ (items ws o)) (whole_in 𝓛 (Item X n) ws b o) $ check ! long $ done !)

    whole : (ws : List X.Denot) → length ws ≡ n → ent 𝓤 (sem 𝓛 (items ws o)) (sem 𝓛 ((mem (Row X n)).own_at ws b o))
    whole ws long = qed 𝓛 (‵ (items ws o) ∷ []) ∵ use1 𝓛 (‵ (side_by_side (Item X n) full_share ws b o)) (whole_out 𝓛 (Item X n) ws b o) $
        feq_i ! ℕ (length ws) n long $ fjoin ! $ by ! (Array-whole 𝓛 (Item X n) full_share n ws b o)

    on : i < length xs → at o s (length before) ≡ spot
    on within = at_mul o s (length before) ∙ ap (λ (k : ℕ). k * s + o) (length-take-le i xs (omega arith))

    put_back : i < n → length xs ≡ n → (x : X.Denot)
        → ent 𝓤 (sep 𝓤 (sem 𝓛 ((mem (Item X n)).own_at x b spot)) Others) (sem 𝓛 ((mem (Row X n)).own_at (set xs i x) b o))
    put_back within long x =
        let lt : i < length xs = omega arith in
        qed 𝓛 (‵ ((mem (Item X n)).own_at x b spot) ∷ ‵ (items before o) ∷ ‵ (items behind (spot + s)) ∷ []) ∵
        move ! (0 ∷ 2 ∷ []) $ fjoin ! $
        rewrite ! 0 (λ (k : ℕ). ‵ (items (x ∷ behind) k)) (sym (on lt)) refl $ move ! (1 ∷ 0 ∷ []) $
        use2 𝓛 (‵ (items (before ++ x ∷ behind) o)) (join_app 𝓛 (mem (Item X n)) before (x ∷ behind) b o) $
        rewrite ! 0 (λ (l : List X.Denot). ‵ (items l o)) (sym (set_split xs i x lt)) refl $
        by ! (whole (set xs i x) (length-set xs i x ∙ long))

    abbrev lent : GName × X.Denot → Entry 𝓤
    lent y = given ((y.1 ≡ get_or xs i y.1) × (length xs ≡ n)) (‵ ((MutRef (named 0) κ (Item X n)).own_val (record { ref_ptr = (b, spot); ghost_name = y.0; now = y.1 }) (vptr b spot ∷ [])) ⊛ ‵ (flft κ q) ⊛ ‵ (follows (Row X n) (Item X n) γ y.0 (set xs i)))

    abbrev Lent : GName × X.Denot → SProp 𝓤
    Lent y = guard 𝓤 ((y.1 ≡ get_or xs i y.1) × (length xs ≡ n)) (sep 𝓤 (sem 𝓛 ((MutRef (named 0) κ (Item X n)).own_val (record { ref_ptr = (b, spot); ghost_name = y.0; now = y.1 }) (vptr b spot ∷ []))) (sep 𝓤 (A.lft κ q) (sem 𝓛 (follows (Row X n) (Item X n) γ y.0 (set xs i)))))

    lends : i < n → (vs : List Val)
        → ent 𝓤 (sep 𝓤 (sem 𝓛 ((MutRef (named 0) κ (Row X n)).own_val (record { ref_ptr = (b, o); ghost_name = γ; now = xs }) vs)) (A.lft κ q)) (H.⇛ (ex 𝓤 Lent))
    lends within vs =
        qed 𝓛 (‵ ((MutRef (named 0) κ (Row X n)).own_val (record { ref_ptr = (b, o); ghost_name = γ; now = xs }) vs) ∷ ‵ (flft κ q) ∷ []) ∵
        updating ! $ fsplit3 ! $ drop ! $ open_ref ! tt (mem (Row X n)) {b = b} {o = o} $
        use1 𝓛 (given (length xs ≡ n) (‵ (items xs o))) (apart xs) $ learn ! (λ long.
        let lt : i < length xs = omega arith in
        let any : X.Denot = first_of xs (omega arith) in
        let x : X.Denot = get_or xs i any in
        rewrite ! 0 (λ (l : List X.Denot). ‵ (items l o)) (sym (set-get_or xs i any) ∙ set_split xs i x lt) refl $
        use1 𝓛 (‵ (items before o) ⊛ ‵ (items (x ∷ behind) (at o s (length before)))) (cut_app 𝓛 (mem (Item X n)) before (x ∷ behind) b o) $
        split ! $ rewrite ! 1 (λ (k : ℕ). ‵ (items (x ∷ behind) k)) (on lt) refl $ move ! (1 ∷ []) $ fsplit ! $
        move ! (2 ∷ 1 ∷ []) $ join ! $ move ! (2 ∷ 3 ∷ 4 ∷ 1 ∷ 0 ∷ []) $ group ! 5 $
        use1 𝓛 (later (some (λ (δ : GName). ‵ (fobs δ ((Item X n).coded.code x)) ⊛ ‵ (fbor κ (Body (mem (Item X n)) b spot δ)) ⊛ ‵ (flft κ q) ⊛ ‵ (follows (Row X n) (Item X n) γ δ (set xs i)))))
        (takes_part 𝓛 (mem (Row X n)) (mem (Item X n)) (set xs i) κ q b o b spot γ Others (put_back within long) ((Row X n).coded.code xs) ((Row X n).coded.code xs) x) $
        await ! tt $ pick ! (λ δ. split3 ! $
        feq_i ! (List Val) (vptr b spot ∷ []) (vptr b spot ∷ []) refl $ fjoin3 ! $ now ! $ show ! Lent (δ, x) $
        check ! (get_or_default xs i any x lt, long) $ done !))

  module _ (at_mem : Memory → SProp 𝓤) (run : Routine → Fun 𝓤) where
    abbrev clauses : Clauses 𝓤 (ended X n)
    clauses = F.clauses X (number n) 𝓛 at_mem run

    module _ (C : Calls 𝓤 H) (Λ : Loops 𝓤 H) (κ κT κN : Lft) (q qT qN : Share)
        (bd : AllOutlive 3 (ended X n).signature.outlives (κ, (κT, (κN, tt)))) (b o : ℕ) (γ : GName)
        (xs : List X.Denot) (i : ℕ) where
      abbrev row : MutBor (List X.Denot)
      row = record { ref_ptr = (b, o); ghost_name = γ; now = xs }

      abbrev bound : (walk_of 𝓛 (ended X n) (stayed X n) clauses).Ghost
      bound = (((κ, (κT, (κN, tt))), (q, (qT, (qN, tt))), bd, (row, (i, tt)), (mut_vals row, (vint w64 i ∷ [], tt))), tt)

      walk : i < n → i < 2 ^ 64 → n * size (layout X) < 2 ^ 63
          → ent 𝓤 (on_entry 𝓛 (ended X n).signature (κ, (κT, (κN, tt))) (q, (qT, (qN, tt))) (row, (i, tt)) (mut_vals row, (vint w64 i ∷ [], tt))) (WpFn 𝓤 H C Λ (function X n) (vptr b o ∷ vint w64 i ∷ []) ((walk_of 𝓛 (ended X n) (stayed X n) clauses).post bound))
      walk within word small =
          let s : ℕ = size (layout X) in
          let bytes : i * s ≤ n * s = mul-le-mul_right s (omega arith) in
          let fits : i * s < 2 ^ 64 = omega arith in
          let place : ℕ = i * s + o in
          qed 𝓛 ((‵ (flft κ q) ⊛ ‵ (flft κT qT) ⊛ ‵ (flft κN qN) ⊛ ‵ ftrue) ∷ ‵ (owns (MutRef (named 0) κ (Row X n) ∷ usize ∷ []) (row, (i, tt)) (mut_vals row, (vint w64 i ∷ [], tt))) ∷ []) ∵
          enter ! C Λ (function X n) (vptr b o ∷ vint w64 i ∷ []) _ $
          alloc_all ! (λ l. pass_all ! refl ((tt, tt), ((tt, record { fits = word }), tt)) $
          sets ! (is ! (bin ! (get ! refl) (size_word !) (record { fits = subst (λ (k : ℕ). k < 2 ^ 64) (sym (uncapped i s fits)) fits })) (ap (vint w64) (uncapped i s fits))) refl (tt, record { fits = fits }) $
          sets ! (addr ! (through ! refl (stop !))) refl (tt, tt) $
          sets ! (bin ! (get ! refl) (get ! refl) tt) refl (tt, tt) $
          sets ! (addr ! (through ! refl (stop !))) refl (tt, tt) $
          split ! $ move ! (2 ∷ []) $ fsplit ! $ move ! (0 ∷ 2 ∷ []) $
          use2 𝓛 (later (some (lent κ q b o γ xs i))) (lends κ q b o γ xs i within (mut_vals row)) $
          await ! tt $ pick ! (λ y. learn ! (λ read.
          returns ! (look_at ! 0 refl) $ free_all ! refl $ keep ! (0 ∷ 2 ∷ []) $ split3 ! $
          suffices ! _ (ends_at 𝓛 (ended X n) (stayed X n) clauses bound (vptr b place) (record { ref_ptr = (b, place); ghost_name = y.0; now = y.1 }) (tt, (tt, tt)) (tt, (tt, tt))) $
          nothing ! $ nothing ! $ fjoin ! $ nothing ! $ fjoin ! $ join ! $ move ! (1 ∷ 3 ∷ []) $ join ! $ join ! $ frame ! $
          use0 𝓛 (raw (fact 𝓤 (length xs ≡ n))) (known 𝓤 read.1) $
          use0 𝓛 (raw (fact 𝓤 (y.1 ≡ get_or xs i y.1))) (known 𝓤 read.0) $ join ! $ move ! (1 ∷ 0 ∷ []) $ done !)))

pub item_of_row_spec : {M : Type 1} → stated.statement M
item_of_row_spec 𝓤 𝓛 𝓜 𝓡 wired X n L small =
    let 𝓣 = tables 𝓤 𝓛.H 𝓜 𝓡 𝓡.env in let signature = (ended X n).signature in
    proved 𝓛 (ended X n) (stayed X n) (F.clauses X (number n) 𝓛 𝓜.mem 𝓡.returns) 𝓜 𝓡 (Goes-spent_ref 𝓛 3 (0 ∷ []) tt (plain (λ _. Row X n)), (Goes-dropped 𝓛 3 (plain (λ _. usize)) yes (λ κs x f. refl), tt))
    (#self (inst X n)) (function X n) (code.unfolded 𝓤 𝓛.H 𝓜 𝓡 wired (X, (number n, tt)))
    (λ κs. (mut_vals, (uint_vals w64, tt))) (λ κs. (mut_Tells (named 0) κs.0 (Row X n), (uint_Tells w64, tt)))
    (λ κs qs bounds a g are.
    qed 𝓛 (raw (on_entry 𝓛 signature κs qs a (mut_vals a.0, (vint w64 a.1.0 ∷ [], tt))) ∷ (given (κs.1.0 ⊑ X.lives) (‵ ftrue) ⊛ given (κs.1.1.0 ⊑ []) (‵ ftrue) ⊛ given (size (layout (Row X n)) < 2 ^ 63) (‵ ftrue) ⊛ given (a.1.0 < n) (‵ ftrue)) ∷ []) ∵
    move ! (1 ∷ []) $ split3 ! $ drop ! $ drop ! $ split ! $ learn ! (λ fits. drop ! $ learn ! (λ within. drop ! $
    by ! (walk X n 𝓛 𝓜.mem 𝓡.returns 𝓣.C 𝓣.Λ κs.0 κs.1.0 κs.1.1.0 qs.0 qs.1.0 qs.1.1.0 bounds a.0.ref_ptr.0 a.0.ref_ptr.1 a.0.ghost_name a.0.now a.1.0 within are.1.0.1 fits))))
