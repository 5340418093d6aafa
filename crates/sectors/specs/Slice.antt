-- A slice of lent bytes.
use Rattle.std.specs.Prelude.{ℕ, List, ◌++◌, take, drop}

-- the `size` bytes from `from` on; where the bytes end before that, the shorter rest
abbrev pub slice : ℕ → ℕ → List ℕ → List ℕ
slice from size bytes = take size (drop from bytes)

-- other bytes in place of that slice
abbrev pub with_slice : ℕ → ℕ → List ℕ → List ℕ → List ℕ
with_slice from size new bytes = take from bytes ++ (new ++ drop size (drop from bytes))
