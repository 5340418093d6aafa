-- A slice of lent bytes, and other bytes put in its place.
use Rattle.std.proofs.Common.{◌≡◌, ℕ, ◌+◌, ◌-◌, ◌*◌, ◌<◌, ◌≤◌, min, List, ◌++◌, take, drop, length, refl, sym, ap, ap₂, ◌∙◌, arith, ⊎_elim, Result, Ok, Err, length-take, length-drop, length-take-le, take-append-drop}
use Rattle.std.specs.Result.{result_unwrap_or}
use Rattle.std.proofs.lemmas.Bool.{cases_lt}
use Rattle.std.proofs.lemmas.List.{take_min, drop_min, take_all, take_at, drop_all, drop_at, append-nil, nil_from_length}
use Rattle.sectors.specs.declared.rewriting.Refusal.{Refusal}
use Rattle.sectors.specs.Slice.{slice, with_slice}
use Rattle.sectors.specs.Rewrite.{done}
use Rattle.sectors.specs.Otadata.{with_sector, left_at}

-- put back as it was, it changes nothing
pub slice_same : (from size : ℕ) (xs : List ℕ) → with_slice from size (slice from size xs) xs ≡ xs
slice_same from size xs = simp (take-append-drop size (drop from xs), take-append-drop from xs)

-- a front of a list that is replaced by as many elements
front_replaced : (size : ℕ) (ys xs : List ℕ) → length ys ≡ length (take size xs) → take size (ys ++ drop size xs) ≡ ys
front_replaced size ys xs same =
    ⊎_elim
    (λ (past : length xs < size). ap (λ (r : List ℕ). take size (ys ++ r)) (drop_all size xs (omega arith)) ∙ ap (take size) (append-nil ys) ∙ take_all size ys (omega (arith, same, length-take size xs)))
    (λ (within : size ≤ length xs). take_at ys (drop size xs) size (same ∙ length-take-le size xs within))
    (cases_lt (length xs) size)

-- as many bytes, put in its place, are that slice then
pub slice_replaced : (from size : ℕ) (ys xs : List ℕ) → length ys ≡ length (slice from size xs) → slice from size (with_slice from size ys xs) ≡ ys
slice_replaced from size ys xs same =
    ⊎_elim
    (λ (past : length xs < from).
    let short : length (slice from size xs) ≡ 0 = omega (arith, length-take size (drop from xs), length-drop from xs) in
    let is : ys ≡ slice from size xs = nil_from_length ys (same ∙ short) ∙ sym (nil_from_length (slice from size xs) short) in
    ap (λ (r : List ℕ). slice from size (with_slice from size r xs)) is ∙ ap (slice from size) (slice_same from size xs) ∙ sym is)
    (λ (within : from ≤ length xs).
    ap (take size) (drop_at (take from xs) (ys ++ drop size (drop from xs)) from (length-take-le from xs within))
    ∙ front_replaced size ys (drop from xs) same)
    (cases_lt (length xs) from)

-- between bounds that stop at the list's end
module _ (xs : List ℕ) (from size start end : ℕ) (start_is : start ≡ min from (length xs)) (end_is : end ≡ min (from + size) (length xs)) where
  rest_is : drop start xs ≡ drop from xs
  rest_is = ap (λ k. drop k xs) start_is ∙ drop_min from xs

  size_is : end - start ≡ min size (length (drop from xs))
  size_is = omega (arith, length-drop from xs)

  pub slice_is : take (end - start) (drop start xs) ≡ slice from size xs
  slice_is = ap₂ take size_is rest_is ∙ take_min size (drop from xs)

  pub with_slice_is : (ys : List ℕ) → take start xs ++ (ys ++ drop (end - start) (drop start xs)) ≡ with_slice from size ys xs
  with_slice_is ys =
      ap₂ (λ (front back : List ℕ). front ++ (ys ++ back)) (ap (λ k. take k xs) start_is ∙ take_min from xs)
      (ap₂ drop size_is rest_is ∙ drop_min size (drop from xs))

  -- bytes that come of the slice, put in its place
  pub with_slice_of : (f : List ℕ → List ℕ) (ys : List ℕ) → ys ≡ f (take (end - start) (drop start xs))
      → take start xs ++ (ys ++ drop (end - start) (drop start xs)) ≡ with_slice from size (f (slice from size xs)) xs
  with_slice_of f ys is = with_slice_is ys ∙ ap (λ (zs : List ℕ). with_slice from size zs xs) (is ∙ ap f slice_is)

-- ---- a call on sector k

pub done_left_at : (k : ℕ) (otadata : List ℕ) (r : Result (List ℕ) Refusal) → done (left_at k otadata r) ≡ done r
done_left_at k otadata (Ok left) = refl
done_left_at k otadata (Err refusal) = refl

-- refused, it leaves otadata as it was
pub bytes_left_at : (k : ℕ) (otadata : List ℕ) (r : Result (List ℕ) Refusal)
    → with_sector k (result_unwrap_or r (slice (k * 4096) 4096 otadata)) otadata ≡ result_unwrap_or (left_at k otadata r) otadata
bytes_left_at k otadata (Ok left) = refl
bytes_left_at k otadata (Err refusal) = slice_same (k * 4096) 4096 otadata
