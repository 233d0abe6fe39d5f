-- Known bytes over several reads and writes.
use Rattle.std.proofs.Common.{◌≡◌, ℕ, List, [], ◌++◌, refl, sym, ap, ◌∙◌, arith, append_assoc}
use Rattle.std.specs.Prelude.{None, Some, Option, Result, Ok, Err, OnOk, OnErr}
use Rattle.std.proofs.lemmas.Grind.{common_steps}
use Rattle.std.specs.Io.KnownBytes.{Appends, Consumes}
use Rattle.eirene.specs.Outcomes.{AppendsPrefix}

-- nothing was appended
pub appends-nothing : (o : Option (List ℕ)) → Appends o o []
appends-nothing None = tt
appends-nothing (Some xs) = grind (arith, common_steps)

-- one text after another
pub appends-more : (a b c : Option (List ℕ)) (xs ys : List ℕ) → Appends a b xs → Appends b c ys → Appends a c (xs ++ ys)
appends-more None b c xs ys h k = tt
appends-more (Some front) None c xs ys h k = absurd h
appends-more (Some front) (Some bs) None xs ys h k = absurd k
appends-more (Some front) (Some bs) (Some cs) xs ys h k = k ∙ ap (λ s. s ++ ys) h ∙ append_assoc front xs ys

-- where nothing was written, a prefix was
pub prefix-nothing : (o : Option (List ℕ)) (all : List ℕ) → AppendsPrefix o o all
prefix-nothing o all = record { front = []; rest = all; grew = appends-nothing o; split = refl }

-- after a front that is written, a prefix of what is next is a prefix of it all
pub prefix-more : (a b c : Option (List ℕ)) (front text rest all : List ℕ) → Appends a b front → AppendsPrefix b c text → front ++ (text ++ rest) ≡ all → AppendsPrefix a c all
prefix-more a b c front text rest all h p joined = record {
  front = front ++ p.front;
  rest = p.rest ++ rest;
  grew = appends-more a b c front p.front h p.grew;
  split = append_assoc front p.front (p.rest ++ rest) ∙ ap (λ s. front ++ s) (sym (append_assoc p.front p.rest rest) ∙ ap (λ s. s ++ rest) p.split) ∙ joined;
}

-- what follows from the fact of an Ok follows of an Ok
pub on_ok : {T E : Type 0} (P Q : Type 0) (r : Result T E) → (P → Q) → OnOk r P → OnOk r Q
on_ok P Q (Ok v) f h = f h
on_ok P Q (Err e) f h = h

-- what follows from the fact of an Err follows of an Err
pub on_err : {T E : Type 0} (P Q : Type 0) (r : Result T E) → (P → Q) → OnErr r P → OnErr r Q
on_err P Q (Ok v) f h = h
on_err P Q (Err e) f h = f h

-- what holds anyway holds of an Ok
pub if_ok : {T E : Type 0} (P : Type 0) (r : Result T E) → P → OnOk r P
if_ok P (Ok v) p = p
if_ok P (Err e) p = tt

-- what holds anyway holds of an Err
pub if_err : {T E : Type 0} (P : Type 0) (r : Result T E) → P → OnErr r P
if_err P (Ok v) p = tt
if_err P (Err e) p = p

-- one piece after another is consumed
pub consumes-nothing : (o : Option (List ℕ)) → Consumes o o []
consumes-nothing None = tt
consumes-nothing (Some xs) = refl

pub consumes-more : (a b c : Option (List ℕ)) (xs ys : List ℕ) → Consumes a b xs → Consumes b c ys → Consumes a c (xs ++ ys)
consumes-more None b c xs ys h k = tt
consumes-more (Some front) None c xs ys h k = absurd h
consumes-more (Some front) (Some bs) None xs ys h k = absurd k
consumes-more (Some front) (Some bs) (Some cs) xs ys h k = h ∙ ap (λ s. xs ++ s) k ∙ sym (append_assoc xs ys cs)
