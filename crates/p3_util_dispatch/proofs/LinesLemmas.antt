-- A region whose columns are put to different rows, and the number of its items that are put.
use Rattle.std.proofs.Common.{◌≡◌, ℕ, zero, suc, ◌+◌, ◌-◌, ◌*◌, ◌<◌, ◌≤◌, ◌⊎◌, nat_lt, if◌then◌else◌, List, length, inl, inr, refl, sym, ◌∙◌, arith}
use Rattle.std.proofs.lemmas.Bool.{cases_lt}
use Rattle.std.proofs.lemmas.Bool.Decides.{nat_tests}
use Rattle.std.proofs.lemmas.Nat.{same_from_place}
use Rattle.p3_util_kernels.specs.declared.transpose.region.Region.{Region}
use Rattle.p3_util_kernels.specs.Sums.{sum_below}
use Rattle.p3_util_dispatch.specs.Lines.{IsPutTo, IsRowPut, cells_before, items_to, limit}
use Rattle.p3_util_kernels.specs.Region.{IsRegionTransposed, cols_of, items_of, rows_of}
use Rattle.p3_util_kernels.proofs.BitsLemmas.Sums.{sum_below-same}

-- the columns before `col` are put as far as g says, and the others as far as f says
pub ahead : (col : ℕ) (f g : ℕ → ℕ) → ℕ → ℕ
ahead col f g x = if nat_lt x col then g x else f x

pub ahead-left : (col : ℕ) (f g : ℕ → ℕ) (x : ℕ) → x < col → ahead col f g x ≡ g x
unfolding ahead
ahead-left col f g x h = grind (arith, nat_tests)

pub ahead-right : (col : ℕ) (f g : ℕ → ℕ) (x : ℕ) → col ≤ x → ahead col f g x ≡ f x
unfolding ahead
ahead-right col f g x h = grind (arith, nat_tests)

-- a sum whose terms from c on and before e are larger by d
sum_below-larger : (n c e d : ℕ) (f g : ℕ → ℕ) → c ≤ e → ((i : ℕ) → i < n → c ≤ i → i < e → g i ≡ f i + d) → ((i : ℕ) → i < n → (i < c) ⊎ (e ≤ i) → g i ≡ f i)
    → sum_below n g ≡ sum_below n f + (n - c - (n - e)) * d
unfolding sum_below
sum_below-larger zero c e d f g order here there = let none : 0 - c - (0 - e) ≡ 0 = omega arith in rw none (omega arith)
sum_below-larger (suc n) c e d f g order here there =
    let before : sum_below n g ≡ sum_below n f + (n - c - (n - e)) * d =
    sum_below-larger n c e d f g order (λ i less. here i (omega (arith, less))) (λ i less. there i (omega (arith, less))) in
    elim (cases_lt n c) [
      | inl left ↦
          let now : suc n - c - (suc n - e) ≡ 0 = omega (arith, left) in
          let prior : n - c - (n - e) ≡ 0 = omega (arith, left) in
          rw now (omega (arith, rw prior at before, there n (omega arith) (inl left)))
      | inr right ↦
          elim (cases_lt n e) [
            | inl inside ↦
                let now : suc n - c - (suc n - e) ≡ n - c - (n - e) + 1 = omega (arith, right, inside) in
                rw now (omega (arith, before, here n (omega arith) right inside))
            | inr after ↦
                let now : suc n - c - (suc n - e) ≡ n - c - (n - e) = omega (arith, order, after) in
                rw now (omega (arith, before, there n (omega arith) (inr after)))
          ]
    ]

sum_below-none : (n : ℕ) (f : ℕ → ℕ) → ((i : ℕ) → f i ≡ 0) → sum_below n f ≡ 0
unfolding sum_below
sum_below-none zero f none = refl
sum_below-none (suc n) f none = omega (arith, sum_below-none n f none, none n)

module _ (region : Region) where
  -- some columns are put from row a to row b
  pub items_to-more : (a b c e : ℕ) (f g : ℕ → ℕ) → region.row_start ≤ a → a ≤ b → region.col_start ≤ c → c ≤ e → e ≤ region.col_end
      → ((x : ℕ) → c ≤ x → x < e → (f x ≡ a) × (g x ≡ b)) → ((x : ℕ) → (x < c) ⊎ (e ≤ x) → g x ≡ f x)
      → items_to region f + (b - a) * (e - c) ≡ items_to region g
  items_to-more a b c e f g from order left cols right here there =
      let more : items_to region g ≡ items_to region f + (cols_of region - (c - region.col_start) - (cols_of region - (e - region.col_start))) * (b - a) =
      sum_below-larger (cols_of region) (c - region.col_start) (e - region.col_start) (b - a) _ _ (omega arith)
      (λ i less from_c to_e. let at = here (region.col_start + i) (omega arith) (omega arith) in omega (arith, at.0, at.1))
      (λ i less out. rw (there (region.col_start + i) (elim out [ inl before ↦ inl (omega arith) | inr after ↦ inr (omega arith) ])) refl) in
      let count : cols_of region - (c - region.col_start) - (cols_of region - (e - region.col_start)) ≡ e - c = omega arith in
      omega (arith, rw count at more)

  pub items_to-same : (f g : ℕ → ℕ) → ((x : ℕ) → region.col_start ≤ x → x < region.col_end → g x ≡ f x) → items_to region g ≡ items_to region f
  items_to-same f g same = sum_below-same (cols_of region) _ _ (λ i less. rw (same (region.col_start + i) (omega arith) (omega (arith, less))) refl)

  pub items_to-none : (f : ℕ → ℕ) → ((x : ℕ) → f x ≡ region.row_start) → items_to region f ≡ 0
  items_to-none f none = sum_below-none (cols_of region) _ (λ i. omega (arith, none (region.col_start + i)))

  pub items_to-all : (f : ℕ → ℕ) → ((x : ℕ) → f x ≡ region.row_end) → items_to region f ≡ items_of region
  items_to-all f all =
      let n = cols_of region in
      let sum : items_to region f ≡ sum_below n (λ i. 0) + (n - 0 - (n - n)) * rows_of region =
      sum_below-larger n 0 n (rows_of region) (λ i. 0) _ (omega arith) (λ i less from to. omega (arith, all (region.col_start + i)))
      (λ i less out. absurd (elim out [ inl before ↦ omega arith | inr after ↦ omega arith ])) in
      let count : n - 0 - (n - n) ≡ n = omega arith in
      omega (arith, rw count at sum, sum_below-none n (λ i. 0) (λ i. refl))

module _ {A : Type 0} (region : Region) (width height : ℕ) (input : List A) where
  pub IsPutTo-none : (f : ℕ → ℕ) (old : List A) → ((x : ℕ) → f x ≡ region.row_start) → IsPutTo region f width height input old old
  IsPutTo-none f old none = record {
    same_length = refl;
    places = λ x y h less. absurd (omega (arith, h.row_from, less, none x));
    others = λ p out. refl;
  }

  pub IsPutTo-all : (f : ℕ → ℕ) (old new : List A) → ((x : ℕ) → f x ≡ region.row_end) → IsPutTo region f width height input old new → IsRegionTransposed region width height input old new
  IsPutTo-all f old new all put = record {
    same_length = put.same_length;
    places = λ x y h. put.places x y h (omega (arith, h.row_to, all x));
    others = λ p out. put.others p (λ x y h less. out x y h);
  }

  -- the same columns are put to the same rows
  pub IsPutTo-same : (f g : ℕ → ℕ) (old new : List A) → ((x : ℕ) → region.col_start ≤ x → x < region.col_end → g x ≡ f x) → IsPutTo region f width height input old new → IsPutTo region g width height input old new
  IsPutTo-same f g old new same put = record {
    same_length = put.same_length;
    places = λ x y h less. put.places x y h (omega (arith, same x h.col_from h.col_to, less));
    others = λ p out. put.others p (λ x y h less. out x y h (omega (arith, same x h.col_from h.col_to, less)));
  }

  -- the columns from c on and before e are put from row a to row b
  pub IsPutTo-more : (a b c e : ℕ) (f g : ℕ → ℕ) (old mid new : List A) → region.row_end ≤ height → region.row_start ≤ a → a ≤ b → b ≤ region.row_end → region.col_start ≤ c → e ≤ region.col_end
      → ((x : ℕ) → c ≤ x → x < e → (f x ≡ a) × (g x ≡ b)) → ((x : ℕ) → (x < c) ⊎ (e ≤ x) → g x ≡ f x)
      → IsPutTo region f width height input old mid → IsRegionTransposed (record { row_start = a; row_end = b; col_start = c; col_end = e }) width height input mid new
      → IsPutTo region g width height input old new
  IsPutTo-more a b c e f g old mid new low from order to left right here there first second = record {
    same_length = second.same_length ∙ first.same_length;
    places = λ x y h less.
        elim (cases_lt y (f x)) [
          | inl early ↦
              second.others (x * height + y) (λ v w k e.
              let same = same_from_place x y v w height (omega (arith, h.row_to, low)) (omega (arith, k.row_to, to, low)) e in
              omega (arith, same.0, same.1, early, k.row_from, (here x (omega (arith, same.0, k.col_from)) (omega (arith, same.0, k.col_to))).0))
              ∙ first.places x y h early
          | inr late ↦ second.places x y (grind (arith, here x, there x, late, less))
        ];
    others = λ p out.
        second.others p (λ x y k. out x y (grind (arith, k, from, to, left, right)) (omega (arith, k.row_to, (here x k.col_from k.col_to).1)))
        ∙ first.others p (λ x y h less. out x y h (grind (arith, less, order, here x, there x)));
  }

-- the rows to which columns are put
module _ (region : Region) (cells before step : ℕ) (order : region.row_start ≤ region.row_end) where
  pub limit-none : (x : ℕ) → limit region cells before step 0 x ≡ region.row_start
  limit-none x = omega arith

  pub limit-all : (most done x : ℕ) → cells_before region.row_start cells before step x ≤ most → rows_of region + most ≤ done → limit region cells before step done x ≡ region.row_end
  limit-all most done x less enough = omega (arith, order, enough, less)

  pub limit-from : (done x : ℕ) → region.row_start ≤ limit region cells before step done x
  limit-from done x = omega arith

  pub limit-to : (done x : ℕ) → limit region cells before step done x ≤ region.row_end
  limit-to done x = omega (arith, order)

  pub limit-more : (done next x : ℕ) → done ≤ next → limit region cells before step done x ≤ limit region cells before step next x
  limit-more done next x more = omega (arith, more)

  -- columns that are put together have the same limits
  pub limit-alike : (done col end x : ℕ) → (step ≡ 0) ⊎ (end ≡ col + 1) → col ≤ x → x < end → limit region cells before step done x ≡ limit region cells before step done col
  limit-alike done col end x (inl none) from to = rw none (let same : x * 0 ≡ col * 0 = omega arith in rw same refl)
  limit-alike done col end x (inr one) from to = let same : x ≡ col = omega (arith, one, from, to) in rw same refl

  -- after a step
  pub ahead-here : (done next col end x : ℕ) → (step ≡ 0) ⊎ (end ≡ col + 1) → col ≤ x → x < end
      → (ahead col (limit region cells before step done) (limit region cells before step next) x ≡ limit region cells before step done col)
      × (ahead end (limit region cells before step done) (limit region cells before step next) x ≡ limit region cells before step next col)
  ahead-here done next col end x alike from to = (
    ahead-right col _ _ x from ∙ limit-alike done col end x alike from to,
    ahead-left end _ _ x to ∙ limit-alike next col end x alike from to,
  )

  -- lines that are whole in every column
  pub limit-whole : (done x : ℕ) → cells_before region.row_start cells before step x ≤ done → done + cells ≤ rows_of region
      → limit region cells before step (done + cells) x ≡ limit region cells before step done x + cells
  limit-whole done x from to = omega (arith, from, to)

pub ahead-there : (col end : ℕ) (f g : ℕ → ℕ) (x : ℕ) → col < end → (x < col) ⊎ (end ≤ x) → ahead end f g x ≡ ahead col f g x
ahead-there col end f g x order (inl before) = ahead-left end f g x (omega (arith, order, before)) ∙ sym (ahead-left col f g x before)
ahead-there col end f g x order (inr after) = ahead-right end f g x after ∙ sym (ahead-right col f g x (omega (arith, order, after)))

-- nothing is put
pub ahead-still : (col : ℕ) (f g : ℕ → ℕ) (x : ℕ) → f col ≡ g col → ahead (col + 1) f g x ≡ ahead col f g x
unfolding ahead
ahead-still col f g x same = grind (arith, nat_tests)

-- The columns before `col` are put one line further, and no others. `Steps` and `StepsNow` say how many items are put before and after this
pub record IsRowPutTo {A M : Type 0} (region : Region) (col cells before step done width height : ℕ) (input out result : List A) (Steps StepsNow : ℕ → M → Type 0) : Type 0 where
  pub from : region.col_start ≤ col
  pub to : col ≤ region.col_end
  pub same_length : length result ≡ length out
  pub put : (old : List A) → IsPutTo region (limit region cells before step done) width height input old out
      → IsPutTo region (ahead col (limit region cells before step done) (limit region cells before step (done + cells))) width height input old result
  pub steps : (old : M) → Steps (items_to region (limit region cells before step done)) old
      → StepsNow (items_to region (ahead col (limit region cells before step done) (limit region cells before step (done + cells)))) old

module _ {A M : Type 0} (region : Region) (cells before step done width height : ℕ) (input out : List A) (Steps : ℕ → M → Type 0) where
  pub IsRowPutTo-none : region.col_start ≤ region.col_end → IsRowPutTo region region.col_start cells before step done width height input out out Steps Steps
  IsRowPutTo-none order =
      let f : ℕ → ℕ = limit region cells before step done in
      let g : ℕ → ℕ = ahead region.col_start f (limit region cells before step (done + cells)) in
      let same : (x : ℕ) → region.col_start ≤ x → x < region.col_end → g x ≡ f x = λ x from to. ahead-right region.col_start f _ x from in
      record { from = omega arith; to = order; same_length = refl; put = λ old put. IsPutTo-same region width height input f g old out same put; steps = λ old holder. rw (items_to-same region f g same) holder }

  pub IsRowPutTo-all : (result : List A) (StepsNow : ℕ → M → Type 0) (col : ℕ) → IsRowPutTo region col cells before step done width height input out result Steps StepsNow → col ≡ region.col_end
      → IsRowPut region cells before step done width height input out result Steps StepsNow
  IsRowPutTo-all result StepsNow col row end =
      let f : ℕ → ℕ = limit region cells before step (done + cells) in
      let g : ℕ → ℕ = ahead col (limit region cells before step done) f in
      let same : (x : ℕ) → region.col_start ≤ x → x < region.col_end → f x ≡ g x = λ x from to. sym (ahead-left col _ f x (omega (arith, end, to))) in
      (λ old put. IsPutTo-same region width height input g f old result same (row.put old put), λ old holder. rw (items_to-same region g f same) (row.steps old holder))

-- the columns from c on and before e, which have the same limits, are put from row a to row b
pub IsRowPutTo-more : {A M : Type 0} (region : Region) (width height : ℕ) (input out mid new : List A) (Steps StepsMid StepsNow : ℕ → M → Type 0) (cells before step done a b c e : ℕ)
    → region.row_start ≤ region.row_end → region.row_end ≤ height → c < e → e ≤ region.col_end
    → (step ≡ 0) ⊎ (e ≡ c + 1) → a ≡ limit region cells before step done c → b ≡ limit region cells before step (done + cells) c
    → IsRowPutTo region c cells before step done width height input out mid Steps StepsMid
    → IsRegionTransposed (record { row_start = a; row_end = b; col_start = c; col_end = e }) width height input mid new
    → ((n all : ℕ) (old : M) → StepsMid n old → n + (b - a) * (e - c) ≡ all → StepsNow all old)
    → IsRowPutTo region e cells before step done width height input out new Steps StepsNow
IsRowPutTo-more region width height input out mid new Steps StepsMid StepsNow cells before step done a b c e order low some to alike left right row put count =
    let f : ℕ → ℕ = limit region cells before step done in
    let g : ℕ → ℕ = limit region cells before step (done + cells) in
    let here : (x : ℕ) → c ≤ x → x < e → (ahead c f g x ≡ a) × (ahead e f g x ≡ b) =
    λ x lower upper. let at = ahead-here region cells before step order done (done + cells) c e x alike lower upper in (at.0 ∙ sym left, at.1 ∙ sym right) in
    let there : (x : ℕ) → (x < c) ⊎ (e ≤ x) → ahead e f g x ≡ ahead c f g x = λ x out. ahead-there c e f g x some out in
    record {
      from = omega (arith, row.from, some);
      to = to;
      same_length = put.same_length ∙ row.same_length;
      put = λ old first. IsPutTo-more region width height input a b c e (ahead c f g) (ahead e f g) old mid new low (omega (arith, left)) (omega (arith, left, right)) (omega (arith, right, order)) row.from to here there (row.put old first) put;
      steps = λ old first. count _ _ old (row.steps old first) (items_to-more region a b c e (ahead c f g) (ahead e f g) (omega (arith, left)) (omega (arith, left, right)) row.from (omega (arith, some)) to here there);
    }
