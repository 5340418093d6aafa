-- The zeros behind a text, after one more is put at its end.
use Rattle.std.proofs.Common.{◌≡◌, ℕ, ◌+◌, ◌-◌, List, drop, replicate, arith, sym, ap, ◌∙◌, drop-drop}
use Rattle.std.proofs.lemmas.List.{drop-replicate}

pub zeros_left : (bytes now : List ℕ) (len more : ℕ) → drop len bytes ≡ replicate (256 - len) 0 → drop (len + more) now ≡ drop (len + more) bytes
    → drop (len + more) now ≡ replicate (256 - (len + more)) 0
zeros_left bytes now len more zeros same =
    same
    ∙ sym (drop-drop more len bytes)
    ∙ ap (drop more) zeros
    ∙ drop-replicate more (256 - len) 0
    ∙ ap (λ n. replicate n 0) (omega arith)
