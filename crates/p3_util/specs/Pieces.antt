-- A list cut into pieces of n items. The last piece is shorter if n does not divide the length.
-- Source: the documentation and the tests of `apply_to_chunks` and `iter_array_chunks_padded` of p3-util 0.8.0.
use Rattle.std.specs.Prelude.{ℕ, zero, suc, ◌-◌, ◌*◌, List, ◌++◌, length, map, take, drop, replicate}
use Rattle.std.specs.Borrow.{Bor}
use Rattle.std.specs.Fn.{Mut, CalledAt}
use Rattle.std.specs.Int.{div_ceil}
use Rattle.std.specs.List.{range_with_len, FoldsTo}

-- the number of pieces of n items in a list of `items` items: the quotient, rounded up, and 0 if n is 0
abbrev pub piece_count : (n items : ℕ) → ℕ
piece_count zero items = 0
piece_count (suc k) items = div_ceil items (suc k)

module _ {A : Type 0} where
  -- piece p has the items from place `p * n` on, at most n of them
  abbrev pub piece : (n : ℕ) → List A → (p : ℕ) → List A
  piece n xs p = take n (drop (p * n) xs)

  -- the list xs cut into pieces of n items. The last piece may be shorter. The number of pieces is
  -- the length divided by n, rounded up. If n is 0, there is no piece
  unfoldable pub pieces : (n : ℕ) → List A → List (List A)
  pieces n xs = map (piece n xs) (range_with_len 0 (piece_count n (length xs)))

  -- a piece filled to n items with `fill`
  abbrev pub padded : (n : ℕ) → A → List A → List A
  padded n fill xs = xs ++ replicate (n - length xs) fill

  -- `pieces n xs`, each of them filled to n items with `fill`
  abbrev pub padded_pieces : (n : ℕ) → A → List A → List (List A)
  padded_pieces n fill xs = map (padded n fill) (pieces n xs)

-- The closure f was called on each piece of n items of xs, in order. The first call used f, and
-- each later call used the closure as the call before had left it. `g` says what one call does
abbrev pub CallsOnPieces : {F A : Type 0} → Mut F (Bor (List A) × Unit {0}) (Unit {0}) → (n : ℕ) → F → List A → Type 0
CallsOnPieces {F} g n f xs = (last : F) × FoldsTo (λ p piece q. CalledAt g p piece tt q) f (pieces n xs) last
