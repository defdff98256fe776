-- The walk through the code of `item_mut` on a `&mut` to rows. The rows are lent on from behind that reference, and
-- then an item of them is lent. What is behind the reference at the end follows from the two loans.
use denote.Param.Laws.{of_field, row_shared}
use denote.Param.Shared.{mut_ref_shared}
use denote.Struct.Field.{mut_ref_field}
use denote.Struct.Laws.{mut_ref_laws}
use denote.Through.{lends_inner_slice, renamed}
use Rattle.std.proofs.option.Option.TheLaws.{the_row_laws as option-laws}
use Rattle.std.specs.Option.{option_copied_mut, ghost_name_of, OnSome}
use Rattle.p3_util.specs.Flat.{countable_items, flat}
use Rattle.p3_util.proofs.FlatLemmas.{countable-set, flat-set-len}
use Rattle.p3_util.specs.RowLends.{lends_item_of_rows}
use Rattle.p3_util.specs.ViewLends.{HasWritten, HasKept, lends_item}
use Rattle.p3_util.specs.contracts.views.rows.RefMutSliceArrayRows.item_mut.Key.{name as #self}
use Rattle.p3_util.proofs.Loans.{◌≡◌, ℕ, List, [], ◌∷◌, ◌<◌, ◌*◌, ◌^◌, refl, sym, ap, w64, MutBor, slice_set, slice_get, length, Option, proved, id⊢, GName, ftrue, fat, flft, full_share, Fn, named, erased, mut, ty_ref, ty_param, ty_array_p, inst_fn, Val, vint, size, ‵, ◌⊛◌, raw, some, later, ◌$◌, ◌∵◌, !, qed, move, drop, split, join, fsplit, fsplit3, fjoin, use0, use1, use2, use3, split3, await, pick, rewrite, suffices, frame, done, stop, addr, fld, hop, load, of_opd, no_more, and_then, returns, enter, whole, sub, agg, look_in, alloc_all, pass_all, free_all, look_at, get, through, sets, lands_as, fact, ◌⊑◌, tables, Array, RefMutOf, SliceRefMutOf, usize, yes, no, follows, shows, cell_at, number, layout, uint_vals, uint_Tells, uint_Makes, RattleType, owns, MutRef, mut_vals, mut_Tells, at_last, plain, MutSlice, slice_ty, slice_val, mut_slice_vals, mut_slice_Tells, nothing, heard, owned, peeks, opens, closes, calls_at, Ended, Lasts, lasts, triple_of, framed, says, Stays, stay_dropped, walk_of, ends_at, Goes-dropped, Goes-spent_ref, inst, Row, ItemArg, item_laws, known, on_some, so_then}
use Rattle.std.specs.contracts.option.Option as option
use Rattle.p3_util.specs.contracts.views.loans.item_of_rows as item
use Rattle.p3_util.specs.contracts.views.rows.RefMutSliceArrayRows.item_mut as F
use Rattle.p3_util.proofs.views.loans.item_of_rows.Met as item-thm
use Rattle.p3_util.proofs.views.rows.RefMutSliceArrayRows.item_mut.Statement as stated
use Rattle.p3_util.proofs.views.rows.RefMutSliceArrayRows.item_mut.Code as code

module _ (X : RattleType) (n : ℕ) where
  abbrev function : Fn
  function = inst_fn (inst X n) code.function

  abbrev ended : Ended
  ended = F.ended X (number n)

  abbrev stayed : Stays ended.signature.params ended.kept
  stayed = (stay_dropped (RefMutOf (0 ∷ []) tt (SliceRefMutOf (1 ∷ []) tt (plain (λ _. Row X n)) (λ _. tt)) (λ _. tt)) no, (stay_dropped (plain (λ _. usize)) yes, tt))

pub item_mut_spec : {M : Type 1} → stated.statement M
item_mut_spec 𝓤 𝓛 𝓜 𝓡 wired X n L small =
    let H = 𝓛.H in let 𝓣 = tables 𝓤 H 𝓜 𝓡 𝓡.env in let c = F.clauses X (number n) 𝓛 𝓜.mem 𝓡.returns in
    proved 𝓛 (ended X n) (stayed X n) c 𝓜 𝓡 (Goes-spent_ref 𝓛 4 (0 ∷ []) tt (SliceRefMutOf (1 ∷ []) tt (plain (λ _. Row X n)) (λ _. tt)), (Goes-dropped 𝓛 4 (plain (λ _. usize)) yes (λ κs x f. refl), tt))
    (#self (inst X n)) (function X n) (code.unfolded 𝓤 H 𝓜 𝓡 wired (X, (number n, tt)))
    (λ κs. (mut_vals, (uint_vals w64, tt))) (λ κs. (mut_Tells (named 0) κs.0 (MutSlice (named 1) κs.1.0 (Row X n)), (uint_Tells w64, tt)))
    (λ κs qs bounds a _ are.
    let κ = κs.0 in let κa = κs.1.0 in let κT = κs.1.1.0 in let κN = κs.1.1.1.0 in
    let q = qs.0 in let qa = qs.1.0 in let qT = qs.1.1.0 in let qN = qs.1.1.1.0 in
    let self = a.0 in let i = a.1.0 in let b = self.ref_ptr.0 in let o = self.ref_ptr.1 in let rows = self.now in
    let Sl = MutSlice (named 1) κa (Row X n) in
    let y : (walk_of 𝓛 (ended X n) (stayed X n) c).Ghost = ((κs, qs, bounds, a, (mut_vals self, (uint_vals w64 i, tt))), tt) in
    qed 𝓛 (((‵ (flft κ q) ⊛ ‵ (flft κa qa) ⊛ ‵ (flft κT qT) ⊛ ‵ (flft κN qN) ⊛ ‵ ftrue) ⊛ ‵ (owns (MutRef (named 0) κ Sl ∷ usize ∷ []) a y.0.4))
    ∷ raw (fact 𝓤 (κT ⊑ X.lives)) ∷ raw (fact 𝓤 (κN ⊑ [])) ∷ raw (fact 𝓤 (n * size (layout X) < 2 ^ 63)) ∷ ‵ ftrue ∷ []) ∵
    move ! (1 ∷ []) $ heard ! _ (λ lives. move ! (1 ∷ []) $ heard ! _ (λ nlives. move ! (1 ∷ []) $ heard ! _ (λ room. move ! (1 ∷ []) $ drop ! $
    split ! $ move ! (1 ∷ []) $ fsplit ! $ move ! (1 ∷ []) $ drop ! $ enter ! _ _ _ _ _ $
    alloc_all ! (λ l. pass_all ! refl ((tt, tt), ((tt, record { fits = are.1.0.1 }), tt)) $
    -- [the reference; the tokens]
    fsplit3 ! $ drop ! $ move ! (2 ∷ []) $ split ! $ move ! (2 ∷ 3 ∷ 0 ∷ []) $
    opens ! tt Sl b o (λ us. move ! (1 ∷ []) $ peeks ! Sl _ (shows 𝓛 Sl) rows us (λ is.
    let e = mut_slice_Tells (named 1) κa (Row X n) rows us is in
    let Cell = λ (vs : List Val). ‵ (cell_at full_share Sl.mir vs b o) in
    let Ty-rows = slice_ty (ty_ref erased mut (ty_array_p (ty_param 0) 1)) in let there = slice_val rows.ref_ptr (length rows.now) in
    rewrite ! 1 Cell e refl $ move ! (1 ∷ []) $ use1 𝓛 (‵ (fat full_share Ty-rows b o there)) (𝓛.laws.raw_at full_share Ty-rows b o there) $
    sets ! (of_opd ! (load ! (through ! refl (fld ! refl (stop !))) (look_in ! 0 (sub ! 1 refl (whole !))))) refl (tt, record { fits = is.0.1.0 }) $
    sets ! (addr ! (through ! refl (fld ! refl (hop ! (look_in ! 0 (sub ! 0 refl (whole !))) (stop !))))) refl (tt, tt) $
    sets ! (agg ! (and_then ! (get ! refl) (and_then ! (get ! refl) (no_more !)))) refl (tt, (tt, (record { fits = is.0.1.0 }, tt))) $
    use1 𝓛 (Cell (mut_slice_vals rows)) (𝓛.laws.at_raw full_share Ty-rows b o there) $ rewrite ! 0 Cell (sym e) refl $ closes ! tt Sl rows us b o $
    use3 𝓛 (later (some (λ (δ : GName). ‵ ((MutSlice (named 0) κ (Row X n)).own_val (renamed rows δ) (mut_slice_vals rows)) ⊛ ‵ (flft κ q) ⊛ ‵ (follows Sl (Array (Row X n) 0) self.ghost_name δ (at_last rows)))))
    (lends_inner_slice 𝓛 (Row X n) (named 0) (named 1) κ κa self bounds.0 is.0.1 q) $ await ! tt $ pick ! (λ δ. split3 ! $
    -- [the rows; the loan's token; how the reference follows the rows; the other tokens]
    let T = ItemArg X n in let LT = item_laws X n L in
    let G = triple_of 𝓛 (item.signature T (number n)) (item.spec T (number n) 𝓛 𝓜.mem 𝓡.returns) in
    let s = renamed rows δ in
    let z : G.Ghost = (((κ, (κT, (κN, tt))), (q, (qT, (qN, tt))), (bounds.1.1.0, tt), (s, (i, tt)), (mut_slice_vals rows, (vint w64 i ∷ [], tt))), tt) in
    move ! (3 ∷ []) $ split ! $ move ! (3 ∷ 1 ∷ []) $ join ! $
    owned ! usize _ (uint_Makes 𝓛 w64) i (vint w64 i ∷ []) (refl, are.1.0.1) $ nothing ! $ move ! (1 ∷ 0 ∷ []) $ fjoin ! $ move ! (3 ∷ 0 ∷ []) $ fjoin ! $ move ! (1 ∷ 0 ∷ []) $ join ! $
    nothing ! $
    use0 𝓛 (raw (fact 𝓤 (n * size (layout X) < 2 ^ 63))) (known 𝓤 room) $ join ! $
    use0 𝓛 (raw (fact 𝓤 (κN ⊑ []))) (known 𝓤 nlives) $ join ! $
    use0 𝓛 (raw (fact 𝓤 (κT ⊑ X.lives))) (known 𝓤 lives) $ join ! $ move ! (1 ∷ 0 ∷ []) $
    use2 𝓛 (raw (G.pre z)) (id⊢ 𝓤 _) $
    calls_at ! (framed 𝓤 H 𝓜 𝓣) G (item-thm.met 𝓤 𝓛 𝓜 𝓡 (code.calls-p3_util::views::loans::item_of_rows 𝓡.env wired) T n LT small) z (and_then ! (get ! refl) (and_then ! (get ! refl) (no_more !))) (λ u.
    let Ref = MutRef (named 0) κ T in let Out = option.the_row Ref in
    let LRef = of_field (mut_ref_field (record { mir = named 0; lft = κ }) T tt) (mut_ref_laws (record { mir = named 0; lft = κ }) T tt) refl (mut_ref_shared (record { mir = named 0; lft = κ }) T tt (row_shared T LT)) in
    let LOut = option-laws Ref LRef in
    use1 𝓛 (later (some (λ (x : Option (MutBor X.Denot)). ((‵ (flft κ q) ⊛ ‵ (flft κT qT) ⊛ ‵ (flft κN qN) ⊛ ‵ ftrue) ⊛ ‵ (Out.own_val x (u ∷ [])))
    ⊛ some (λ (ws : Lasts (item.ended T (number n)) z.0.0 z.0.3). ‵ (lasts (item.ended T (number n)) z.0.0 z.0.3 ws) ⊛ ‵ (lends_item_of_rows T n s i x)
    ⊛ raw (fact 𝓤 (option_copied_mut x ≡ slice_get (countable_items rows.now) i)))))) (id⊢ 𝓤 _) $
    await ! tt $ pick ! (λ x. split ! $ split ! $ move ! (2 ∷ []) $ pick ! (λ _. split ! $ drop ! $ split ! $ move ! (1 ∷ []) $ heard ! _ (λ read.
    move ! (2 ∷ []) $ peeks ! Out _ (shows 𝓛 Out) x (u ∷ []) (λ at.
    lands_as ! refl refl ((LOut.lawful 𝓛).typed x (u ∷ []) at).0 $
    -- [the item; how the rows follow it; the tokens; the rows' token; how the reference follows the rows]
    returns ! (look_at ! 0 refl) $ free_all ! refl $
    let items : MutBor (List (List X.Denot)) → List X.Denot = λ k. countable_items k.now in
    let same_rows : MutBor (List (List X.Denot)) → MutBor (List (List X.Denot)) → Type 0 = λ k l. (k.ghost_name ≡ l.ghost_name) × (length (flat k.now) ≡ length (flat l.now)) in
    move ! (4 ∷ 1 ∷ []) $ use2 𝓛 (‵ (lends_item Sl T items same_rows self i x))
    (so_then 𝓛 Sl (Array (Array T n) 0) T (at_last rows) self.ghost_name δ (ghost_name_of x)
    (λ w ls. OnSome x (flat ls ≡ slice_set (flat rows.now) i w)) (λ ls. ls ≡ rows.now)
    (λ w last. HasWritten Sl T items same_rows self i x last w) (λ last. HasKept Sl T items same_rows self i x last)
    (λ w ls. on_some x (λ same. ((refl, flat-set-len ls rows.now i w same), countable-set ls rows.now i w same)))
    (λ ls same. ((refl, ap (λ l. length (flat l)) (sym same)), ap countable_items same))) $
    move ! (2 ∷ []) $ split ! $ move ! (4 ∷ 1 ∷ []) $ join ! $ move ! (1 ∷ 0 ∷ []) $ join ! $
    suffices ! _ (ends_at 𝓛 (ended X n) (stayed X n) c y u x (tt, (tt, tt)) (tt, (tt, tt))) $
    nothing ! $ nothing ! $ fjoin ! $ nothing ! $ fjoin ! $ move ! (0 ∷ 3 ∷ []) $ join ! $ move ! (1 ∷ 0 ∷ []) $ join ! $ frame ! $ says ! read $ done !)))))))))))))
