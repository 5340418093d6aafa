-- A message up to a place, and a piece of it from there on.
-- Assumes nothing.
use Prim.Native.Nat.{ℕ, ◌+◌, ◌-◌, ◌≤◌}
use mathlib.Core.Path.{◌≡◌, sym, ap, ◌∙◌}
use mathlib.Core.List.{List, ◌++◌}
use native.Mathlib.Omega.{arith}
use lib.ListN.{length, take, drop, take-append-drop}
use lib.Seq.{take-add}
use Rattle.sha256.proofs.Pieces.{to_end}

pub piece : (m : List ℕ) (at end : ℕ) → at ≤ end → take at m ++ take (end - at) (drop at m) ≡ take end m
piece m at end h =
    let z : at + (end - at) ≡ end = omega arith in
    sym (take-add at (end - at) m) ∙ ap (λ (n : ℕ). take n m) z

pub rest : (m : List ℕ) (at : ℕ) → take at m ++ take (length m - at) (drop at m) ≡ m
rest m at = rw to_end (take-append-drop at m)
