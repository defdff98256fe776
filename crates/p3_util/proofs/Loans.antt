-- What the hand-written proofs about loans share: the names of the logic, their types, a fact added
-- to what is owned, and a loan that may exist, taken from a loan that does exist.
pub use Rattle.std.proofs.Common.{◌≡◌, refl, sym, ap, subst, ◌∙◌, ℕ, zero, suc, ◌+◌, ◌*◌, ◌^◌, ◌<◌, ◌≤◌, mul-le-mul_right, zero-mul, suc-mul, arith, List, [], ◌∷◌, ◌++◌, length, get_or, set, take, length-set, slice_set, slice_index_or, slice_get, Option, Some, None, OnSome}
pub use mir.Syntax.{Fn, named, w64, erased, mut, ty_ref, ty_param, ty_array_p, Args, a_type, a_number, ty_array}
pub use mir.MapTy.{inst_fn}
pub use mir.Val.{Val, vptr, vint}
pub use base.Logic.{SProp, ent, sep, ex, guard, id⊢, emp, guard_i}
pub use base.Fraction.{full_share}
pub use base.Fml.{Fml, fsep, feq, Lft, GName, Share, ftrue, flft, fobs, fbor, fat}
pub use prog.Memory.{Memory, capped, size}
pub use types.Kit.{‵, ◌⊛◌, raw, given, some, later, ◌$◌, ◌∵◌, !, qed, by, move, keep, drop, split, split3, join, learn, fsplit, fsplit3, fjoin, fjoin3, use0, use1, use2, await, pick, suffices, frame, done, updating, group, now, show, rewrite, feq_i, feq_l, check, use3, fpick, fpack}
pub use types.Run.{stop, addr, bin, size_word, returns, enter, fld, from, hop, no_more, and_then, load, of_opd}
pub use types.ByLocal.{alloc_all, pass_all, free_all, look_at, get, through, sets, is, look_in_at, get_in, lands_as}
pub use contract.BorrowLft.{◌⊑◌}
pub use contract.Monad.{Fun, fact}
pub use contract.Running.{tables}
pub use denote.Builtin.{RefMutOf, usize, SliceRefMutOf}
pub use denote.Exit.{yes, no}
pub use denote.Follow.{follows, follows_then, follows_by, follows_if, follows_so, followed, such_by}
pub use denote.Array.{Array}
pub use denote.Memory.{mem, part_at, cell_at}
pub use denote.Param.{number, layout, param, arg, layouts, ArrayAt}
pub use denote.Plain.{uint_vals, uint_Tells, uint_Makes}
pub use denote.RattleType.{RattleType, owns}
pub use denote.Ref.{MutBor, MutRef, mut_vals, mut_Tells, at_last}
pub use denote.Signature.{plain, mut_slice_of}
pub use denote.Steps.{nothing, only, heard, owned, peeks, opens, closes}
pub use denote.Triple.Clauses.{Clauses, Ended, Lasts, lasts}
pub use denote.Triple.Walked.{Stays, stay_dropped, walk_of, ends_at, Goes-dropped, Goes-spent_ref, Goes-spent_slice, says}
pub use Rattle.std.proofs.lemmas.List.{get_or_default}
pub use Rattle.std.proofs.raw_atomic.Walks.{proved}
pub use types.Part.{whole, sub, agg, look_in}
pub use denote.Laws.{shows}
pub use denote.Slice.{MutSlice, mut_slice_vals, mut_slice_Tells, slice_ty, slice_val}
pub use denote.Triple.Call.{calls_at}
pub use denote.Triple.Spec.{triple_of}
pub use denote.Triple.Table.{framed}
use seplogic.Ra.Ura.{Ura}
use types.Logic.{Logic, sem}
use denote.Param.Laws.{Laws, param_laws, arg_laws, number_array_laws}
use mathlib.Core.Option as maybe

module _ (X : RattleType) (n : ℕ) where
  -- the arguments of a function over items X and rows of n items
  abbrev pub inst : Args
  inst = layouts (a_type ∷ a_number ∷ []) (X, (number n, tt))

  -- an item and a row, as such a function has them
  abbrev pub Item : RattleType
  Item = param 0 X

  abbrev pub Row : RattleType
  Row = ArrayAt Item (param 1 (number n))

  -- and an item as such a function passes it on
  abbrev pub ItemArg : RattleType
  ItemArg = arg (layout X) yes Item

  abbrev pub RowArg : RattleType
  RowArg = arg (ty_array (layout X) n) no Row

  abbrev pub item_laws : Laws X → Laws ItemArg
  item_laws L = arg_laws (layout X) yes Item (param_laws 0 X L) refl

  abbrev pub row_laws : Laws X → Laws RowArg
  row_laws L = arg_laws (ty_array (layout X) n) no Row (number_array_laws Item (param_laws 0 X L) (param 1 (number n)) refl) refl

-- a proved fact holds without anything being owned
pub known : {M : Type 1} (𝓤 : Ura M) {φ : Type 0} → φ → ent 𝓤 (emp 𝓤) (fact 𝓤 φ)
known 𝓤 {φ} p = guard_i 𝓤 φ (emp 𝓤) p

-- a fact about an item that may exist follows from another fact about it
pub on_some : {A : Type 0} (x : Option A) {P Q : Type 0} → (P → Q) → OnSome x P → OnSome x Q
on_some None f p = tt
on_some (Some a) f p = f p

-- R follows S, and S follows what may be lent of it
module _ {M : Type 1} {𝓤 : Ura M} (𝓛 : Logic 𝓤) (R S T : RattleType) (F : S.Denot → R.Denot) (γ γ' : GName) where
  if_then : (m : maybe.Option GName) (G : T.Denot → S.Denot) (v : S.Denot)
      → ent 𝓤 (sep 𝓤 (sem 𝓛 (follows R S γ γ' F)) (sem 𝓛 (follows_if S T γ' m G v))) (sem 𝓛 (follows_if R T γ m (λ w. F (G w)) (F v)))
  unfolding follows_by
  if_then maybe.none G v = followed 𝓛 R S F γ γ' v
  if_then (maybe.some δ) G v = follows_then 𝓛 R S T F G γ γ' δ

  pub so_then : (m : maybe.Option GName) (P : T.Denot → S.Denot → Type 0) (P₀ : S.Denot → Type 0) (Q : T.Denot → R.Denot → Type 0) (Q₀ : R.Denot → Type 0)
      → ((w : T.Denot) (s : S.Denot) → P w s → Q w (F s)) → ((s : S.Denot) → P₀ s → Q₀ (F s))
      → ent 𝓤 (sep 𝓤 (sem 𝓛 (follows R S γ γ' F)) (sem 𝓛 (follows_so S T γ' m P P₀))) (sem 𝓛 (follows_so R T γ m Q Q₀))
  unfolding such_by
  so_then m P P₀ Q Q₀ where_some where_none =
      qed 𝓛 (‵ (follows R S γ γ' F) ∷ ‵ (follows_so S T γ' m P P₀) ∷ []) ∵ move ! (1 ∷ []) $ fpick ! (λ s. move ! (1 ∷ 0 ∷ []) $
      use2 𝓛 (‵ (follows_if R T γ m (λ w. F (s.0.0 w)) (F s.0.1))) (if_then m s.0.0 s.0.1) $
      fpack ! ((z : (T.Denot → R.Denot) × R.Denot) × ((w : T.Denot) → Q w (z.0 w)) × Q₀ z.1) (λ z. follows_if R T γ m z.0.0 z.0.1)
      ((λ w. F (s.0.0 w), F s.0.1), (λ w. where_some w (s.0.0 w) (s.1 w)), where_none s.0.1 s.2) $ done !)
