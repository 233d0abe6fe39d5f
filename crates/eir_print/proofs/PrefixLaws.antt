-- Texts that are written part by part, and how far they come where there is no memory for all of a part.
use Rattle.std.proofs.Common.{◌≡◌, ℕ, zero, suc, ◌+◌, ◌-◌, ◌<◌, ◌≤◌, Bool, true, false, cond, filter, List, [], ◌∷◌, ◌++◌, flat_map, length, take, drop, get_or, refl, sym, ◌∙◌, ap, append_assoc, arith}
use Rattle.std.specs.Prelude.{Result, Ok, Err, OnOk, OnErr, Some, None, slice_get}
use Rattle.std.proofs.lemmas.List.{append-nil, take_all}
use Rattle.std.proofs.lemmas.Option.{none-some, same_Some}
use Rattle.eir_print.specs.Prefixes.{AppendsPrefix}
use Rattle.eir_print.specs.Words.{joined, text_at}

-- what holds anyway holds of an Err
pub if_err : {T E : Type 0} (P : Type 0) (r : Result T E) → P → OnErr r P
if_err P (Ok v) p = tt
if_err P (Err e) p = p

-- what follows from the fact of an Err follows of an Err
pub on_err : {T E : Type 0} (P Q : Type 0) (r : Result T E) → (P → Q) → OnErr r P → OnErr r Q
on_err P Q (Ok v) f h = h
on_err P Q (Err e) f h = f h

pub on_ok : {T E : Type 0} (P Q : Type 0) (r : Result T E) → (P → Q) → OnOk r P → OnOk r Q
on_ok P Q (Ok v) f h = f h
on_ok P Q (Err e) f h = h

-- a prefix of the first part is a prefix of all
pub prefix-first : (old new t u whole : List ℕ) → AppendsPrefix old new t → whole ≡ t ++ u → AppendsPrefix old new whole
prefix-first old new t u whole p w = record {
  front = p.front;
  rest = p.rest ++ u;
  grew = p.grew;
  split = sym (append_assoc p.front p.rest u) ∙ ap (λ x. x ++ u) p.split ∙ sym w;
}

-- after a part that is written, a prefix of the rest is a prefix of all
pub prefix-then : (old here new t u whole : List ℕ) → here ≡ old ++ t → AppendsPrefix here new u → whole ≡ t ++ u → AppendsPrefix old new whole
prefix-then old here new t u whole h p w = record {
  front = t ++ p.front;
  rest = p.rest;
  grew = p.grew ∙ ap (λ x. x ++ p.front) h ∙ append_assoc old t p.front;
  split = append_assoc t p.front p.rest ∙ ap (λ x. t ++ x) p.split ∙ sym w;
}

-- the same where the whole is as it is put together
pub then : (old here new t u : List ℕ) → here ≡ old ++ t → AppendsPrefix here new u → AppendsPrefix old new (t ++ u)
then old here new t u h p = prefix-then old here new t u (t ++ u) h p refl

-- where all of a part was written
pub done : (old here new t u : List ℕ) → here ≡ old ++ t → new ≡ here ++ u → new ≡ old ++ (t ++ u)
done old here new t u h n = n ∙ ap (λ x. x ++ u) h ∙ append_assoc old t u

-- where nothing of a part was
pub none : (here new u : List ℕ) → new ≡ here → AppendsPrefix here new u
none here new u n = record { front = []; rest = u; grew = n ∙ sym (append-nil here); split = refl }

pub first : (old new t u : List ℕ) → AppendsPrefix old new t → AppendsPrefix old new (t ++ u)
first old new t u p = prefix-first old new t u (t ++ u) p refl

module _ {X : Type 0} (text : X → List ℕ) where
  -- the texts up to a place, that of the element there, and the others
  texts-split : (xs : List X) (i : ℕ) (d : X) → i < length xs → flat_map text xs ≡ flat_map text (take i xs) ++ (text (get_or xs i d) ++ flat_map text (drop (suc i) xs))
  texts-split [] i d l = absurd (omega arith)
  texts-split (x ∷ xs) zero d l = refl
  texts-split (x ∷ xs) (suc i) d l = ap (λ t. text x ++ t) (texts-split xs i d (omega arith)) ∙ sym (append_assoc (text x) (flat_map text (take i xs)) (text (get_or xs i d) ++ flat_map text (drop (suc i) xs)))

  -- in a loop over the elements
  pub prefix-inside : (start here new : List ℕ) (xs : List X) (i : ℕ) (d x : X) → i < length xs → x ≡ get_or xs i d → here ≡ start ++ flat_map text (take i xs) → AppendsPrefix here new (text x) → AppendsPrefix start new (flat_map text xs)
  prefix-inside start here new xs i d x l at h p =
      prefix-then start here new (flat_map text (take i xs)) (text x ++ flat_map text (drop (suc i) xs)) (flat_map text xs) h
      (prefix-first here new (text x) (flat_map text (drop (suc i) xs)) (text x ++ flat_map text (drop (suc i) xs)) p refl)
      (texts-split xs i d l ∙ ap (λ y. flat_map text (take i xs) ++ (text y ++ flat_map text (drop (suc i) xs))) (sym at))

  pub stops-inside : {T E : Type 0} (r : Result T E) (start here new : List ℕ) (xs : List X) (i : ℕ) (d x : X) → i < length xs → x ≡ get_or xs i d → here ≡ start ++ flat_map text (take i xs) → AppendsPrefix here new (text x) → OnErr r (AppendsPrefix start new (flat_map text xs))
  stops-inside r start here new xs i d x l at h p = if_err (AppendsPrefix start new (flat_map text xs)) r (prefix-inside start here new xs i d x l at h p)

  -- in a loop over places
  texts-split_at : (xs : List X) (i : ℕ) → flat_map text xs ≡ flat_map text (take i xs) ++ (text_at text xs i ++ flat_map text (drop (suc i) xs))
  texts-split_at [] zero = refl
  texts-split_at [] (suc i) = refl
  texts-split_at (x ∷ xs) zero = refl
  texts-split_at (x ∷ xs) (suc i) = ap (λ t. text x ++ t) (texts-split_at xs i) ∙ sym (append_assoc (text x) (flat_map text (take i xs)) (text_at text xs i ++ flat_map text (drop (suc i) xs)))

  pub prefix-inside_at : (start here new : List ℕ) (xs : List X) (i : ℕ) → here ≡ start ++ flat_map text (take i xs) → AppendsPrefix here new (text_at text xs i) → AppendsPrefix start new (flat_map text xs)
  prefix-inside_at start here new xs i h p =
      prefix-then start here new (flat_map text (take i xs)) (text_at text xs i ++ flat_map text (drop (suc i) xs)) (flat_map text xs) h
      (prefix-first here new (text_at text xs i) (flat_map text (drop (suc i) xs)) (text_at text xs i ++ flat_map text (drop (suc i) xs)) p refl)
      (texts-split_at xs i)

  pub stops-inside_at : {T E : Type 0} (r : Result T E) (start here new : List ℕ) (xs : List X) (i : ℕ) → here ≡ start ++ flat_map text (take i xs) → AppendsPrefix here new (text_at text xs i) → OnErr r (AppendsPrefix start new (flat_map text xs))
  stops-inside_at r start here new xs i h p = if_err (AppendsPrefix start new (flat_map text xs)) r (prefix-inside_at start here new xs i h p)

  -- one element more
  more_at : (xs : List X) (i : ℕ) → flat_map text (take (suc i) xs) ≡ flat_map text (take i xs) ++ text_at text xs i
  more_at [] zero = refl
  more_at [] (suc i) = refl
  more_at (x ∷ xs) zero = append-nil (text x)
  more_at (x ∷ xs) (suc i) = ap (λ t. text x ++ t) (more_at xs i) ∙ sym (append_assoc (text x) (flat_map text (take i xs)) (text_at text xs i))

  pub texts-more_at : (start here new : List ℕ) (xs : List X) (i : ℕ) → here ≡ start ++ flat_map text (take i xs) → new ≡ here ++ text_at text xs i → new ≡ start ++ flat_map text (take (i + 1) xs)
  texts-more_at start here new xs i h n =
      n ∙ ap (λ t. t ++ text_at text xs i) h ∙ append_assoc start (flat_map text (take i xs)) (text_at text xs i)
      ∙ ap (λ t. start ++ t) (sym (more_at xs i) ∙ ap (λ k. flat_map text (take k xs)) (let q : suc i ≡ i + 1 = omega arith in q))

  pub texts-all : (start out : List ℕ) (xs : List X) (i : ℕ) → length xs ≤ i → out ≡ start ++ flat_map text (take i xs) → out ≡ start ++ flat_map text xs
  texts-all start out xs i l e = e ∙ ap (λ ys. start ++ flat_map text ys) (take_all i xs l)

  -- where there is no first element
  pub texts-nothing : (out : List ℕ) (xs : List X) → None ≡ slice_get xs 0 → out ≡ out ++ flat_map text xs
  texts-nothing out [] e = sym (append-nil out)
  texts-nothing out (x ∷ xs) e = absurd (none-some x e)

  -- the first text, and those of the other elements
  pub texts-first : (xs : List X) (x : X) → Some x ≡ slice_get xs 0 → flat_map text xs ≡ text x ++ flat_map text (drop 1 xs)
  texts-first [] x e = absurd (none-some x (sym e))
  texts-first (y ∷ ys) x e = ap (λ z. text z ++ flat_map text ys) (sym (same_Some _ _ e))

  pub text-further : (xs : List X) (i : ℕ) → 1 ≤ i → text_at text xs i ≡ text_at text (drop 1 xs) (i - 1)
  text-further xs zero l = absurd (omega arith)
  text-further [] (suc i) l = refl
  text-further (x ∷ xs) (suc i) l = ap (λ k. text_at text xs k) (let q : i ≡ suc i - 1 = omega arith in q)

  -- the first text stands alone, the others with the separator in front
  pub joined-split : (sep : List ℕ) (xs : List X) (d x : X) → 1 ≤ length xs → x ≡ get_or xs 0 d → joined sep text xs ≡ text x ++ flat_map (λ y. sep ++ text y) (take (length xs - 1) (drop 1 xs))
  joined-split sep [] d x l at = absurd (omega arith)
  joined-split sep (y ∷ ys) d x l at =
      let rest : take (suc (length ys) - 1) ys ≡ ys = ap (λ k. take k ys) (let q : suc (length ys) - 1 ≡ length ys = omega arith in q) ∙ take_all (length ys) ys (omega arith) in
      ap (λ z. text z ++ flat_map (λ u. sep ++ text u) ys) (sym at) ∙ ap (λ zs. text x ++ flat_map (λ u. sep ++ text u) zs) (sym rest)

  -- the texts of the elements that pass, up to one that does
  filtered-split : (p : X → Bool) (xs : List X) (i : ℕ) (d : X) → i < length xs → p (get_or xs i d) ≡ true → flat_map text (filter p xs) ≡ flat_map text (filter p (take i xs)) ++ (text (get_or xs i d) ++ flat_map text (filter p (drop (suc i) xs)))
  filtered-split p [] i d l t = absurd (omega arith)
  filtered-split p (x ∷ xs) zero d l t = rw t refl
  filtered-split p (x ∷ xs) (suc i) d l t = by (p x) (filtered-split p xs i d (omega arith) t)
    where
      by : (b : Bool) → flat_map text (filter p xs) ≡ flat_map text (filter p (take i xs)) ++ (text (get_or xs i d) ++ flat_map text (filter p (drop (suc i) xs))) →
          flat_map text (cond b (x ∷ filter p xs) (filter p xs)) ≡ flat_map text (cond b (x ∷ filter p (take i xs)) (filter p (take i xs))) ++ (text (get_or xs i d) ++ flat_map text (filter p (drop (suc i) xs)))
      by true h = ap (λ s. text x ++ s) h ∙ sym (append_assoc (text x) (flat_map text (filter p (take i xs))) (text (get_or xs i d) ++ flat_map text (filter p (drop (suc i) xs))))
      by false h = h

  pub stops-filtered : {T E : Type 0} (r : Result T E) (p : X → Bool) (start here new : List ℕ) (xs : List X) (i : ℕ) (d x : X) → i < length xs → x ≡ get_or xs i d → p x ≡ true → here ≡ start ++ flat_map text (filter p (take i xs)) → AppendsPrefix here new (text x) →
      OnErr r (AppendsPrefix start new (flat_map text (filter p xs)))
  stops-filtered r p start here new xs i d x l at t h a =
      if_err (AppendsPrefix start new (flat_map text (filter p xs))) r
      (prefix-then start here new (flat_map text (filter p (take i xs))) (text x ++ flat_map text (filter p (drop (suc i) xs))) (flat_map text (filter p xs)) h
      (prefix-first here new (text x) (flat_map text (filter p (drop (suc i) xs))) (text x ++ flat_map text (filter p (drop (suc i) xs))) a refl)
      (filtered-split p xs i d l (ap p (sym at) ∙ t) ∙ ap (λ y. flat_map text (filter p (take i xs)) ++ (text y ++ flat_map text (filter p (drop (suc i) xs)))) (sym at)))
