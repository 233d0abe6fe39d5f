-- What is left of a list of bytes after a piece of it was taken.
use Rattle.std.proofs.Common.{◌≡◌, ◌+◌, ℕ, List, ◌++◌, length, take, drop, sym, subst}
use Rattle.std.proofs.lemmas.List.{take-append-drop, drop-drop}
use Rattle.std.proofs.Math.Seq.{take-append_seam}

-- the piece in front of the buffer and what lies behind the new place make up what was left
pub drop-piece : (bytes piece rest : List ℕ) (at n : ℕ) → length piece ≡ n → piece ≡ take n (drop at bytes)
    → drop at bytes ≡ take n (piece ++ rest) ++ drop (at + n) bytes
drop-piece bytes piece rest at n long copied =
    let front : take n (piece ++ rest) ≡ piece =
    subst (λ (k : ℕ). take k (piece ++ rest) ≡ piece) long (take-append_seam piece rest) in
    rw (front, copied, ← drop-drop n at bytes) (sym (take-append-drop n (drop at bytes)))
