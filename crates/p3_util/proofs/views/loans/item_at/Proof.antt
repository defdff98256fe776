-- The walk through the code of `item_at`. It takes two loans, the second one from what the first
-- one lent. What the rows are at the end follows from what each of the two calls states.
use Rattle.p3_util.specs.contracts.views.loans.item_at.Key.{name as #self}
use Rattle.p3_util.proofs.Loans.{◌≡◌, ℕ, List, [], ◌∷◌, ◌<◌, ◌*◌, ◌^◌, refl, sym, ap, ◌∙◌, w64, MutBor, slice_set, slice_index_or, length, proved, get_or_default, id⊢, ftrue, flft, Fn, named, inst_fn, Val, vptr, vint, size, ‵, ◌⊛◌, raw, some, later, ◌$◌, ◌∵◌, !, qed, move, keep, drop, split, join, fsplit, fjoin, use0, use1, use2, await, pick, rewrite, suffices, frame, done, stop, addr, fld, from, hop, no_more, and_then, returns, enter, whole, sub, agg, alloc_all, pass_all, free_all, look_at, look_in_at, get, get_in, sets, lands_as, fact, ◌⊑◌, tables, Array, usize, yes, no, follows, follows_then, shows, number, layout, uint_vals, uint_Tells, uint_Makes, RattleType, owns, MutRef, mut_vals, mut_Tells, plain, mut_slice_of, MutSlice, mut_slice_vals, mut_slice_Tells, nothing, only, heard, owned, peeks, calls_at, Ended, Lasts, lasts, triple_of, framed, Stays, stay_dropped, walk_of, ends_at, Goes-dropped, Goes-spent_slice, inst, Row, ItemArg, RowArg, item_laws, row_laws, known}
use Rattle.p3_util.specs.contracts.views.loans.row_of as row
use Rattle.p3_util.specs.contracts.views.loans.item_of_row as item
use Rattle.p3_util.specs.contracts.views.loans.item_at as F
use Rattle.p3_util.proofs.views.loans.row_of.Met as row-thm
use Rattle.p3_util.proofs.views.loans.item_of_row.Met as item-thm
use Rattle.p3_util.proofs.views.loans.item_at.Statement as stated
use Rattle.p3_util.proofs.views.loans.item_at.Code as code

module _ (X : RattleType) (n : ℕ) where
  abbrev function : Fn
  function = inst_fn (inst X n) code.function

  abbrev ended : Ended
  ended = F.ended X (number n)

  abbrev stayed : Stays ended.signature.params ended.kept
  stayed = (stay_dropped (mut_slice_of (0 ∷ []) tt (plain (λ _. Row X n))) no, (stay_dropped (plain (λ _. usize)) yes, (stay_dropped (plain (λ _. usize)) yes, tt)))

pub item_at_spec : {M : Type 1} → stated.statement M
item_at_spec 𝓤 𝓛 𝓜 𝓡 wired X n L small =
    let H = 𝓛.H in let 𝓣 = tables 𝓤 H 𝓜 𝓡 𝓡.env in let c = F.clauses X (number n) 𝓛 𝓜.mem 𝓡.returns in
    let goes = Goes-dropped 𝓛 3 (plain (λ _. usize)) yes (λ κs x f. refl) in
    proved 𝓛 (ended X n) (stayed X n) c 𝓜 𝓡 (Goes-spent_slice 𝓛 3 (0 ∷ []) tt (plain (λ _. Row X n)), (goes, (goes, tt)))
    (#self (inst X n)) (function X n) (code.unfolded 𝓤 H 𝓜 𝓡 wired (X, (number n, tt)))
    (λ κs. (mut_slice_vals, (uint_vals w64, (uint_vals w64, tt)))) (λ κs. (mut_slice_Tells (named 0) κs.0 (Row X n), (uint_Tells w64, (uint_Tells w64, tt))))
    (λ κs qs bounds a _ are.
    let κ = κs.0 in let κT = κs.1.0 in let κN = κs.1.1.0 in let q = qs.0 in let qT = qs.1.0 in let qN = qs.1.1.0 in
    let rows = a.0 in let r = a.1.0 in let k = a.1.1.0 in
    let R = RowArg X n in let LR = row_laws X n L in
    let y : (walk_of 𝓛 (ended X n) (stayed X n) c).Ghost = ((κs, qs, bounds, a, (mut_slice_vals rows, (uint_vals w64 r, (uint_vals w64 k, tt)))), tt) in
    qed 𝓛 (((‵ (flft κ q) ⊛ ‵ (flft κT qT) ⊛ ‵ (flft κN qN) ⊛ ‵ ftrue) ⊛ ‵ (owns (MutSlice (named 0) κ (Row X n) ∷ usize ∷ usize ∷ []) a y.0.4))
    ∷ raw (fact 𝓤 (κT ⊑ X.lives)) ∷ raw (fact 𝓤 (κN ⊑ [])) ∷ raw (fact 𝓤 (n * size (layout X) < 2 ^ 63)) ∷ raw (fact 𝓤 (r < length rows.now)) ∷ raw (fact 𝓤 (k < n)) ∷ []) ∵
    move ! (1 ∷ []) $ heard ! _ (λ lives. move ! (1 ∷ []) $ heard ! _ (λ nlives. move ! (1 ∷ []) $ heard ! _ (λ room. move ! (1 ∷ []) $ heard ! _ (λ within. move ! (1 ∷ []) $ heard ! _ (λ column.
    split ! $ move ! (1 ∷ []) $ fsplit ! $ move ! (1 ∷ []) $ drop ! $ enter ! _ _ _ _ _ $
    alloc_all ! (λ l. pass_all ! refl ((tt, (tt, (record { fits = are.0.0.1.0 }, tt))), ((tt, record { fits = are.1.0.1 }), ((tt, record { fits = are.1.1.0.1 }), tt))) $
    sets ! (addr ! (from ! (fld ! refl (hop ! (look_in_at ! 1 (sub ! 0 refl (whole !))) (stop !))))) refl (tt, tt) $
    sets ! (agg ! (and_then ! (get ! refl) (and_then ! (get_in ! (fld ! refl (stop !)) (sub ! 1 refl (whole !))) (no_more !)))) refl (tt, (tt, (record { fits = are.0.0.1.0 }, tt))) $
    -- [the rows; the tokens]
    let G1 = triple_of 𝓛 (row.signature R) (row.spec R 𝓛 𝓜.mem 𝓡.returns) in
    let z1 : G1.Ghost = (((κ, (κT, tt)), (q, (qT, tt)), bounds, (rows, (r, tt)), (mut_slice_vals rows, (vint w64 r ∷ [], tt))), tt) in
    move ! (1 ∷ []) $ split ! $ move ! (1 ∷ []) $ split ! $ move ! (1 ∷ []) $ split ! $ nothing ! $ move ! (3 ∷ 0 ∷ []) $ join ! $ move ! (3 ∷ 0 ∷ []) $ join ! $
    -- [the loan's token and T's; N's; nothing; the rows]
    owned ! usize _ (uint_Makes 𝓛 w64) r (vint w64 r ∷ []) (refl, are.1.0.1) $ nothing ! $ move ! (1 ∷ 0 ∷ []) $ fjoin ! $ move ! (4 ∷ 0 ∷ []) $ fjoin ! $ move ! (1 ∷ 0 ∷ []) $ join ! $
    use0 𝓛 (raw (fact 𝓤 (r < length rows.now))) (known 𝓤 within) $
    use0 𝓛 (raw (fact 𝓤 (κT ⊑ X.lives))) (known 𝓤 lives) $ join ! $ move ! (1 ∷ 0 ∷ []) $
    use2 𝓛 (raw (G1.pre z1)) (id⊢ 𝓤 _) $
    calls_at ! (framed 𝓤 H 𝓜 𝓣) G1 (row-thm.met 𝓤 𝓛 𝓜 𝓡 (code.calls-p3_util::views::loans::row_of 𝓡.env wired) R LR) z1 (and_then ! (get ! refl) (and_then ! (get ! refl) (no_more !))) (λ u1.
    use1 𝓛 (later (some (λ (t : MutBor (List X.Denot)). ((‵ (flft κ q) ⊛ ‵ (flft κT qT) ⊛ ‵ ftrue) ⊛ ‵ ((MutRef (named 0) κ R).own_val t (u1 ∷ [])))
    ⊛ some (λ (ws : Lasts (row.ended R) z1.0.0 z1.0.3). ‵ (lasts (row.ended R) z1.0.0 z1.0.3 ws) ⊛ ‵ (follows (Array R 0) R rows.ghost_name t.ghost_name (slice_set rows.now r)) ⊛ raw (fact 𝓤 (t.now ≡ slice_index_or rows.now r t.now)))))) (id⊢ 𝓤 _) $
    await ! tt $ pick ! (λ t. split ! $ split ! $ move ! (2 ∷ []) $ pick ! (λ _. split ! $ drop ! $ split ! $ move ! (1 ∷ []) $ heard ! _ (λ same1.
    move ! (2 ∷ []) $ peeks ! (MutRef (named 0) κ R) _ (shows 𝓛 (MutRef (named 0) κ R)) t (u1 ∷ []) (λ is1.
    let e1 = mut_Tells (named 0) κ R t (u1 ∷ []) is1 in
    lands_as ! (ap only e1) refl (tt, tt) $
    rewrite ! 0 (λ (vs : List Val). ‵ ((MutRef (named 0) κ R).own_val t vs)) e1 refl $
    -- [the row; how the rows follow it; the tokens; N's token; nothing]
    let T = ItemArg X n in let LT = item_laws X n L in
    let G2 = triple_of 𝓛 (item.signature T (number n)) (item.spec T (number n) 𝓛 𝓜.mem 𝓡.returns) in
    let z2 : G2.Ghost = (((κ, (κT, (κN, tt))), (q, (qT, (qN, tt))), bounds, (t, (k, tt)), (mut_vals t, (vint w64 k ∷ [], tt))), tt) in
    move ! (2 ∷ []) $ split ! $ move ! (1 ∷ []) $ split ! $ move ! (5 ∷ 1 ∷ []) $ join ! $ move ! (1 ∷ 0 ∷ []) $ join ! $ move ! (1 ∷ 0 ∷ []) $ join ! $
    owned ! usize _ (uint_Makes 𝓛 w64) k (vint w64 k ∷ []) (refl, are.1.1.0.1) $ nothing ! $ move ! (1 ∷ 0 ∷ []) $ fjoin ! $ move ! (2 ∷ 0 ∷ []) $ fjoin ! $ move ! (1 ∷ 0 ∷ []) $ join ! $
    use0 𝓛 (raw (fact 𝓤 (k < n))) (known 𝓤 column) $
    use0 𝓛 (raw (fact 𝓤 (n * size (layout X) < 2 ^ 63))) (known 𝓤 room) $ join ! $
    use0 𝓛 (raw (fact 𝓤 (κN ⊑ []))) (known 𝓤 nlives) $ join ! $
    use0 𝓛 (raw (fact 𝓤 (κT ⊑ X.lives))) (known 𝓤 lives) $ join ! $ move ! (1 ∷ 0 ∷ []) $
    use2 𝓛 (raw (G2.pre z2)) (id⊢ 𝓤 _) $
    calls_at ! (framed 𝓤 H 𝓜 𝓣) G2 (item-thm.met 𝓤 𝓛 𝓜 𝓡 (code.calls-p3_util::views::loans::item_of_row 𝓡.env wired) T n LT small) z2 (and_then ! (get ! refl) (and_then ! (get ! refl) (no_more !))) (λ u2.
    use1 𝓛 (later (some (λ (x : MutBor X.Denot). ((‵ (flft κ q) ⊛ ‵ (flft κT qT) ⊛ ‵ (flft κN qN) ⊛ ‵ ftrue) ⊛ ‵ ((MutRef (named 0) κ T).own_val x (u2 ∷ [])))
    ⊛ some (λ (ws : Lasts (item.ended T (number n)) z2.0.0 z2.0.3). ‵ (lasts (item.ended T (number n)) z2.0.0 z2.0.3 ws) ⊛ ‵ (follows (Array T n) T t.ghost_name x.ghost_name (slice_set t.now k))
    ⊛ raw (fact 𝓤 (x.now ≡ slice_index_or t.now k x.now)) ⊛ raw (fact 𝓤 (length t.now ≡ n)))))) (id⊢ 𝓤 _) $
    await ! tt $ pick ! (λ x. split ! $ split ! $ move ! (2 ∷ []) $ pick ! (λ _. split ! $ drop ! $ split ! $ move ! (1 ∷ []) $ split ! $ heard ! _ (λ same2. heard ! _ (λ long.
    move ! (2 ∷ []) $ peeks ! (MutRef (named 0) κ T) _ (shows 𝓛 (MutRef (named 0) κ T)) x (u2 ∷ []) (λ is2.
    let e2 = mut_Tells (named 0) κ T x (u2 ∷ []) is2 in
    lands_as ! (ap only e2) refl (tt, tt) $
    rewrite ! 0 (λ (vs : List Val). ‵ ((MutRef (named 0) κ T).own_val x vs)) e2 refl $
    -- [the item; how the row follows it; the tokens; how the rows follow the row]
    returns ! (look_at ! 0 refl) $ free_all ! refl $ keep ! (0 ∷ 1 ∷ 2 ∷ 3 ∷ []) $
    let inner = slice_index_or rows.now r [] in
    let whole-row : t.now ≡ inner = same1 ∙ get_or_default rows.now r t.now [] within in
    move ! (3 ∷ 1 ∷ []) $ use2 𝓛 (‵ (follows (Array R 0) T rows.ghost_name x.ghost_name (λ (w : X.Denot). slice_set rows.now r (slice_set t.now k w)))) (follows_then 𝓛 (Array R 0) R T (slice_set rows.now r) (slice_set t.now k) rows.ghost_name t.ghost_name x.ghost_name) $
    rewrite ! 0 (λ (F : X.Denot → List (List X.Denot)). ‵ (follows (Array R 0) T rows.ghost_name x.ghost_name F)) (λ i w. slice_set rows.now r (slice_set (whole-row i) k w)) refl $
    suffices ! _ (ends_at 𝓛 (ended X n) (stayed X n) c y (vptr x.ref_ptr.0 x.ref_ptr.1) x (tt, (tt, (tt, tt))) (tt, (tt, (tt, tt)))) $
    nothing ! $ nothing ! $ fjoin ! $ nothing ! $ fjoin ! $ nothing ! $ fjoin ! $ move ! (0 ∷ 2 ∷ []) $ join ! $ move ! (2 ∷ 0 ∷ []) $ join ! $ frame ! $
    use0 𝓛 (raw (fact 𝓤 (length inner ≡ n))) (known 𝓤 (ap (λ (l : List X.Denot). length l) (sym whole-row) ∙ long)) $
    use0 𝓛 (raw (fact 𝓤 (x.now ≡ slice_index_or inner k x.now))) (known 𝓤 (same2 ∙ ap (λ (l : List X.Denot). slice_index_or l k x.now) whole-row)) $ join ! $ move ! (1 ∷ 0 ∷ []) $ done !))))))))))))))))))
