-- What is put under a key and taken off again.
use Rattle.std.proofs.Common.{◌≡◌, ℕ, ◌-◌, Bool, true, false, cond, Result, Ok, Err, OnErr, List, [], ◌∷◌, ◌++◌, length, take, sym, ◌∙◌, ap, arith, append-nil, append_assoc, length-append}
use Rattle.std.proofs.Math.Seq.{take-append_seam}
use Rattle.eir_inst.specs.declared.key.Key.{Key}
use Rattle.eir_inst.specs.Keys.{key_eq}

-- without its last place a list that was given one is as before
pub drop-added : (xs ys : List ℕ) (p : ℕ) (b : Bool) → ys ≡ xs ++ cond b (p ∷ []) [] → cond b (take (length ys - 1) ys) ys ≡ xs
drop-added xs ys p true e =
    let a = length-append xs (p ∷ []) in
    let b : length ys ≡ length (xs ++ p ∷ []) = ap length e in
    let n : length ys - 1 ≡ length xs = omega arith in
    ap (λ k. take k ys) n ∙ ap (take (length xs)) e ∙ take-append_seam xs (p ∷ [])
drop-added xs ys p false e = e ∙ append-nil xs

-- so where what came after left all as it was, the lists are as at first
pub undo-added : {T E : Type 0} (r : Result T E) (key : Key) (p : ℕ) (before after more undone : Key → List ℕ) → ((k : Key) → after k ≡ before k ++ cond (key_eq k key) (p ∷ []) []) →
    OnErr r ((k : Key) → more k ≡ after k) → ((k : Key) → undone k ≡ cond (key_eq k key) (take (length (more k) - 1) (more k)) (more k)) → OnErr r ((k : Key) → undone k ≡ before k)
undo-added (Ok x) key p before after more undone add same drop = tt
undo-added (Err e) key p before after more undone add same drop = λ k. drop k ∙ drop-added (before k) (more k) p (key_eq k key) (same k ∙ add k)

-- the places of a first key and of others, taken off from the last to the first
pub undo-first : (key : Key) (p : ℕ) (before old mid new rest : Key → List ℕ) → ((k : Key) → old k ≡ before k ++ (cond (key_eq k key) (p ∷ []) [] ++ rest k)) →
    ((first : Key → List ℕ) → ((k : Key) → old k ≡ first k ++ rest k) → (k : Key) → mid k ≡ first k) → ((k : Key) → new k ≡ cond (key_eq k key) (take (length (mid k) - 1) (mid k)) (mid k)) → (k : Key) → new k ≡ before k
undo-first key p before old mid new rest was others drop k =
    drop k ∙ drop-added (before k) (mid k) p (key_eq k key) (others (λ q. before q ++ cond (key_eq q key) (p ∷ []) []) (λ q. was q ∙ sym (append_assoc (before q) (cond (key_eq q key) (p ∷ []) []) (rest q))) k)
