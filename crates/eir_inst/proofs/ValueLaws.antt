-- Values by first occurrence, as a set in order of insertion collects them, and their numbers. The points are
-- `values-push`: the values after one fact more, and `rows-push`: the numbers of the values of the facts before it stay.
use Rattle.std.proofs.Common.{◌≡◌, ℕ, suc, ◌+◌, ◌<◌, inl, inr, Bool, true, false, cond, ◌||◌, Decides, List, [], ◌∷◌, ◌++◌, map, length, take, get_or, refl, sym, ◌∙◌, ap, ap₂, subst, arith, append-nil, append_assoc}
use Rattle.std.specs.List.{list_any, position_or_len}
use Rattle.std.proofs.lemmas.Bool.{cases_Bool}
use Rattle.std.proofs.lemmas.List.{map-append}
use Rattle.std.proofs.Math.Seq.{take-append_seam, take-suc}
use Rattle.indexmap.specs.IndexSet.{insert_key, insert_all}
use Rattle.eir_term.specs.declared.val.Val.{Val}
use Rattle.eir_term.specs.declared.fact.Fact.{Fact}
use Rattle.eir_term.specs.Lists.{◌∈◌, without, distinct, place_of}
use Rattle.eir_term.specs.Values.{val_eq, val_eq-decides}
use Rattle.eir_term.specs.Instances.{occurrences, values}
use Rattle.eir_term.proofs.ListLaws.{apart-false, false-apart, ∈-list_any_from, ∈-append_left, ∈-append_right, ∈-map_from}
use Rattle.eir_term.proofs.HomLaws.{∈-values}
use Rattle.eir_inst.specs.Numbers.{numbers_of}

module _ {X : Type 0} (eq : X → X → Bool) (same : (a b : X) → Decides (eq a b) (a ≡ b)) where
  -- the test does not mind the order of its arguments
  eq-flip : (x y : X) → eq x y ≡ eq y x
  eq-flip x y = elim (cases_Bool (eq y x)) [
    | inl t ↦ (same x y).1 (sym ((same y x).0 t)) ∙ sym t
    | inr t ↦ apart-false eq same x y (λ e. false-apart eq same y x t (sym e)) ∙ sym t
  ]

  -- whether v is among the elements does not hang on another value
  list_any-without : (v x : X) (ys : List X) → eq x v ≡ false → list_any (eq v) (without eq x ys) ≡ list_any (eq v) ys
  list_any-without v x [] n = refl
  list_any-without v x (y ∷ ys) n = elim (cases_Bool (eq x y)) [
    | inl t ↦ (let s : eq v y ≡ false = eq-flip v y ∙ subst (λ z. eq z v ≡ false) ((same x y).0 t) n in rw (t, s) (list_any-without v x ys n))
    | inr t ↦ rw t (ap (λ b. eq v y || b) (list_any-without v x ys n))
  ]

  -- the last element goes or stays by itself
  without-push : (v x : X) (ys : List X) → without eq x (ys ++ v ∷ []) ≡ without eq x ys ++ cond (eq x v) [] (v ∷ [])
  without-push v x [] = refl
  without-push v x (y ∷ ys) = elim (cases_Bool (eq x y)) [ inl t ↦ rw t (without-push v x ys) | inr t ↦ rw t (ap (λ zs. y ∷ zs) (without-push v x ys)) ]

  -- one more element is one more insert
  distinct-push : (xs : List X) (v : X) → distinct eq (xs ++ v ∷ []) ≡ insert_key eq (distinct eq xs) v
  distinct-push [] v = refl
  distinct-push (x ∷ xs) v = ap (λ ys. x ∷ without eq x ys) (distinct-push xs v) ∙ step (distinct eq xs)
    where
      step : (F : List X) → x ∷ without eq x (insert_key eq F v) ≡ insert_key eq (x ∷ without eq x F) v
      step F = elim (cases_Bool (eq x v)) [
        | inl t ↦ (let back : eq v x ≡ true = eq-flip v x ∙ t in elim (cases_Bool (list_any (eq v) F))
            [ inl s ↦ rw (s, back) refl | inr s ↦ rw (s, back) (ap (λ zs. x ∷ zs) (without-push v x F ∙ rw t (append-nil (without eq x F)))) ])
        | inr t ↦ (let back : eq v x ≡ false = eq-flip v x ∙ t in let rest = list_any-without v x F t in elim (cases_Bool (list_any (eq v) F)) [
          | inl s ↦ rw (back, rest, s) refl
          | inr s ↦ rw (back, rest, s) (ap (λ zs. x ∷ zs) (without-push v x F ∙ rw t refl))
        ])
      ]

  -- so more elements are as many inserts
  pub insert_all-distinct : (xs vs : List X) → insert_all eq (distinct eq xs) vs ≡ distinct eq (xs ++ vs)
  insert_all-distinct xs [] = ap (distinct eq) (sym (append-nil xs))
  insert_all-distinct xs (v ∷ vs) =
      ap (λ ys. insert_all eq ys vs) (sym (distinct-push xs v)) ∙ insert_all-distinct (xs ++ v ∷ []) vs ∙ ap (distinct eq) (append_assoc xs (v ∷ []) vs)

  -- the last of the inserts
  pub insert_all-push : (ks vs : List X) (v : X) → insert_all eq ks (vs ++ v ∷ []) ≡ insert_key eq (insert_all eq ks vs) v
  insert_all-push ks [] v = refl
  insert_all-push ks (u ∷ vs) v = insert_all-push (insert_key eq ks u) vs v

  -- an insert puts at most something behind
  pub insert_key-grows : (ks : List X) (v : X) → (more : List X) × (insert_key eq ks v ≡ ks ++ more)
  insert_key-grows ks v = elim (cases_Bool (list_any (eq v) ks)) [ inl t ↦ ([], rw t (sym (append-nil ks))) | inr t ↦ (v ∷ [], rw t refl) ]

  pub insert_all-grows : (ks vs : List X) → (more : List X) × (insert_all eq ks vs ≡ ks ++ more)
  insert_all-grows ks [] = ([], sym (append-nil ks))
  insert_all-grows ks (v ∷ vs) =
      let a = insert_key-grows ks v in
      let b = insert_all-grows (insert_key eq ks v) vs in
      (a.0 ++ b.0, b.1 ∙ ap (λ zs. zs ++ b.0) a.1 ∙ append_assoc ks a.0 b.0)

  pub ∈-insert_key_self : (ks : List X) (v : X) → v ∈ insert_key eq ks v
  ∈-insert_key_self ks v = elim (cases_Bool (list_any (eq v) ks)) [ inl t ↦ rw t (∈-list_any_from eq same v ks t) | inr t ↦ rw t (∈-append_right v ks (v ∷ []) (inl refl)) ]

  pub ∈-insert_all : (ks vs : List X) (x : X) → x ∈ vs → x ∈ insert_all eq ks vs
  ∈-insert_all ks [] x h = elim h [ ]
  ∈-insert_all ks (v ∷ vs) x (inl e) =
      let g = insert_all-grows (insert_key eq ks v) vs in
      subst (λ zs. x ∈ zs) (sym g.1) (∈-append_left x (insert_key eq ks v) g.0 (subst (λ z. z ∈ insert_key eq ks v) (sym e) (∈-insert_key_self ks v)))
  ∈-insert_all ks (v ∷ vs) x (inr h) = ∈-insert_all (insert_key eq ks v) vs x h

  -- a place among the first stays
  pub place_of-append_left : (x : X) (xs ys : List X) → x ∈ xs → place_of eq x (xs ++ ys) ≡ place_of eq x xs
  place_of-append_left x [] ys h = elim h [ ]
  place_of-append_left x (z ∷ xs) ys (inl e) = rw ((same x z).1 e)
  place_of-append_left x (z ∷ xs) ys (inr h) = elim (cases_Bool (eq x z)) [ inl s ↦ rw s | inr s ↦ rw s (ap suc (place_of-append_left x xs ys h)) ]

  pub place_of-below : (x : X) (xs : List X) → x ∈ xs → place_of eq x xs < length xs
  place_of-below x [] h = elim h [ ]
  place_of-below x (z ∷ xs) (inl e) = rw ((same x z).1 e) (omega arith)
  place_of-below x (z ∷ xs) (inr h) = let r = place_of-below x xs h in elim (cases_Bool (eq x z)) [ inl s ↦ rw s (omega arith) | inr s ↦ rw s (omega arith) ]

  -- the place that a look-up answers
  pub position_or_len-place : (x : X) (xs : List X) → position_or_len (eq x) xs ≡ place_of eq x xs
  position_or_len-place x [] = refl
  position_or_len-place x (z ∷ xs) = let r = position_or_len-place x xs in elim (cases_Bool (eq x z)) [ inl s ↦ rw s refl | inr s ↦ rw s (omega arith) ]

-- occurrences, values
pub occurrences-push : (K : List Fact) (f : Fact) → occurrences (K ++ f ∷ []) ≡ occurrences K ++ f.args
occurrences-push [] f = append-nil f.args
occurrences-push (g ∷ K) f = ap (λ vs. g.args ++ vs) (occurrences-push K f) ∙ sym (append_assoc g.args (occurrences K) f.args)

-- the values after one fact more: its values that are new go last
pub values-push : (K : List Fact) (f : Fact) → insert_all val_eq (values K) f.args ≡ values (K ++ f ∷ [])
values-push K f = insert_all-distinct val_eq val_eq-decides (occurrences K) f.args ∙ ap (distinct val_eq) (sym (occurrences-push K f))

-- what was there keeps its place
pub kept-insert_all : (ks vs : List Val) → take (length ks) (insert_all val_eq ks vs) ≡ ks
kept-insert_all ks vs = let g = insert_all-grows val_eq val_eq-decides ks vs in ap (take (length ks)) g.1 ∙ take-append_seam ks g.0

-- the numbers of values that are there do not hang on what stands behind
pub numbers_of-append : (ws more vs : List Val) → ((v : Val) → v ∈ vs → v ∈ ws) → numbers_of (ws ++ more) vs ≡ numbers_of ws vs
numbers_of-append ws more [] there = refl
numbers_of-append ws more (v ∷ vs) there =
    ap₂ (λ n ns. n ∷ ns) (place_of-append_left val_eq val_eq-decides v ws more (there v (inl refl))) (numbers_of-append ws more vs (λ u h. there u (inr h)))

-- so the rows of the facts stay, and the new fact's goes last
pub rows-push : (K : List Fact) (f : Fact) (ws : List Val) → ws ≡ values (K ++ f ∷ []) → map (λ (g : Fact). numbers_of (values K) g.args) K ++ numbers_of ws f.args ∷ [] ≡ map (λ (g : Fact). numbers_of (values (K ++ f ∷ [])) g.args) (K ++ f ∷ [])
rows-push K f ws e =
    let V = values (K ++ f ∷ []) in
    let g = insert_all-grows val_eq val_eq-decides (values K) f.args in
    let grown : V ≡ values K ++ g.0 = sym (values-push K f) ∙ g.1 in
    ap₂ (λ rs ws. rs ++ numbers_of ws f.args ∷ []) (same K V g.0 grown K (λ x h. h)) e ∙ sym (map-append (λ (g : Fact). numbers_of V g.args) K (f ∷ []))
  where
    same : (K : List Fact) (V more : List Val) → V ≡ values K ++ more → (L : List Fact) → ((x : Fact) → x ∈ L → x ∈ K) → map (λ (g : Fact). numbers_of (values K) g.args) L ≡ map (λ (g : Fact). numbers_of V g.args) L
    same K V more e [] within = refl
    same K V more e (x ∷ L) within =
        ap₂ (λ r rs. r ∷ rs) (sym (ap (λ ws. numbers_of ws x.args) e ∙ numbers_of-append (values K) more x.args (λ v h. ∈-values v x K (within x (inl refl)) h))) (same K V more e L (λ y h. within y (inr h)))

-- a value's place is the same before and after it is put in
place_of-insert_key : (ks : List Val) (v : Val) → place_of val_eq v (insert_key val_eq ks v) ≡ place_of val_eq v ks
place_of-insert_key ks v = elim (cases_Bool (list_any (val_eq v) ks)) [ inl t ↦ rw t refl | inr t ↦ rw t (last ks) ]
  where
    last : (ks : List Val) → place_of val_eq v (ks ++ v ∷ []) ≡ place_of val_eq v ks
    last [] = rw ((val_eq-decides v v).1 refl) refl
    last (k ∷ ks) = elim (cases_Bool (val_eq v k)) [ inl t ↦ rw t refl | inr t ↦ rw t (ap suc (last ks)) ]

-- keys and row are what the values vs make of the old keys
pub record IsNumbered (old vs keys : List Val) (row : List ℕ) : Type 0 where
  pub keys_are : keys ≡ insert_all val_eq old vs
  pub row_is : row ≡ numbers_of keys vs

-- one value more
pub IsNumbered-push : (old vs keys new : List Val) (row grown : List ℕ) (v : Val) (n : ℕ) → IsNumbered old vs keys row → new ≡ insert_key val_eq keys v → n ≡ position_or_len (val_eq v) keys → grown ≡ row ++ n ∷ [] → IsNumbered old (vs ++ v ∷ []) new grown
IsNumbered-push old vs keys new row grown v n s e at g = record {
  keys_are = e ∙ ap (λ ks. insert_key val_eq ks v) s.keys_are ∙ sym (insert_all-push val_eq val_eq-decides old vs v);
  row_is =
      (let m = insert_key-grows val_eq val_eq-decides keys v in
      let there : (u : Val) → u ∈ vs → u ∈ keys = λ u h. subst (λ ks. u ∈ ks) (sym s.keys_are) (∈-insert_all val_eq val_eq-decides old vs u h) in
      let rest : numbers_of new vs ≡ numbers_of keys vs = ap (λ ks. numbers_of ks vs) (e ∙ m.1) ∙ numbers_of-append keys m.0 vs there in
      let here : place_of val_eq v new ≡ n = ap (place_of val_eq v) e ∙ place_of-insert_key keys v ∙ sym (position_or_len-place val_eq val_eq-decides v keys) ∙ sym at in
      g ∙ ap₂ (λ ns k. ns ++ k ∷ []) (s.row_is ∙ sym rest) (sym here) ∙ sym (map-append (λ u. place_of val_eq u new) vs (v ∷ [])));
}

-- what was there is there still
pub IsNumbered-kept : (old vs keys : List Val) (row : List ℕ) → IsNumbered old vs keys row → take (length old) keys ≡ old
IsNumbered-kept old vs keys row s = ap (take (length old)) s.keys_are ∙ kept-insert_all old vs

-- the numbers are below the number of values
pub numbers_of-below : (old vs : List Val) (n : ℕ) → n ∈ numbers_of (insert_all val_eq old vs) vs → n < length (insert_all val_eq old vs)
numbers_of-below old vs n h =
    let r = ∈-map_from (λ v. place_of val_eq v (insert_all val_eq old vs)) n vs h in
    let l = place_of-below val_eq val_eq-decides r.0 (insert_all val_eq old vs) (∈-insert_all val_eq val_eq-decides old vs r.0 r.1) in
    subst (λ k. k < length (insert_all val_eq old vs)) (sym r.2) l

-- one value of a list more
pub IsNumbered-next : (old vs keys new : List Val) (row grown : List ℕ) (i n : ℕ) (d : Val) → i < length vs → IsNumbered old (take i vs) keys row → new ≡ insert_key val_eq keys (get_or vs i d) → n ≡ position_or_len (val_eq (get_or vs i d)) keys → grown ≡ row ++ n ∷ [] →
    IsNumbered old (take (i + 1) vs) new grown
IsNumbered-next old vs keys new row grown i n d l s e at g =
    let c : suc i ≡ i + 1 = omega arith in
    subst (λ us. IsNumbered old us new grown) (sym (take-suc vs i d l) ∙ ap (λ k. take k vs) c) (IsNumbered-push old (take i vs) keys new row grown (get_or vs i d) n s e at g)

-- what was there is there after one value more
pub kept-next : (old vs keys new : List Val) (row : List ℕ) (v : Val) → IsNumbered old vs keys row → new ≡ insert_key val_eq keys v → take (length old) new ≡ old
kept-next old vs keys new row v s e =
    ap (take (length old)) (e ∙ ap (λ ks. insert_key val_eq ks v) s.keys_are ∙ sym (insert_all-push val_eq val_eq-decides old vs v)) ∙ kept-insert_all old (vs ++ v ∷ [])

-- the last of a list
pub get_or-last : {X : Type 0} (xs : List X) (x d : X) → get_or (xs ++ x ∷ []) (length xs) d ≡ x
get_or-last [] x d = refl
get_or-last (y ∷ xs) x d = get_or-last xs x d

-- the numbers of the row that was put last are below the number of values
pub row-below : (old keys vs : List Val) (rows new : List (List ℕ)) (row at slice : List ℕ) (place count : ℕ) → place ≡ length rows → new ≡ rows ++ row ∷ [] → at ≡ get_or new place at → slice ≡ at → row ≡ numbers_of keys vs → keys ≡ insert_all val_eq old vs → count ≡ length keys →
    (n : ℕ) → n ∈ slice → n < count
row-below old keys vs rows new row at slice place count p g a s r k c n h =
    let is : slice ≡ numbers_of (insert_all val_eq old vs) vs = s ∙ a ∙ ap₂ (λ zs i. get_or zs i at) g p ∙ get_or-last rows row at ∙ r ∙ ap (λ ks. numbers_of ks vs) k in
    let l = numbers_of-below old vs n (subst (λ ns. n ∈ ns) is h) in
    let q : count ≡ length (insert_all val_eq old vs) = c ∙ ap length k in
    omega arith
