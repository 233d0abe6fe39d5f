-- The least map over a map that sends facts to facts. The points are `bind_facts-sound`: such a map keeps what it had
-- and sends what it was asked to send; and `bind_facts-complete`: where some function does all this there is such a
-- map, and the function follows it.
--   Follows g m          == g sends what m names where m sends it
--   IsOver m n           == what m sends, n sends alike
--   Grows m n            == n is over m, and moves no fixed constant if m moves none
--   Binds m v w          == m sends v to w; a fixed constant needs no pair
--   AllBind m vs ws      == m sends the values vs to the values ws, one by one
--   FactBinds m f g      == m sends the fact f to the fact g
--   FactsBind m fs gs    == m sends the first facts of fs to the facts gs, one by one
use Rattle.std.proofs.Common.{◌≡◌, ℕ, zero, suc, inl, inr, false, ◌==◌, List, [], ◌∷◌, ◌++◌, map, take, length, Option, Some, None, unwrap_or, refl, sym, ◌∙◌, ap, ap₂, subst, arith}
use Rattle.std.proofs.lemmas.Bool.{cases_Bool, eqb-true, eq-eqb}
use Rattle.std.proofs.lemmas.Option.{same_Some, option_and_then_some, cond_some, none-some}
use Rattle.eir_term.specs.declared.val.Val.{Val}
use Rattle.eir_term.specs.declared.val.Val.TheVariants.{Const, Fixed, Null}
use Rattle.eir_term.specs.declared.fact.Fact.{Fact}
use Rattle.eir_term.specs.Lists.{◌∈◌}
use Rattle.eir_term.specs.Values.{val_eq, val_eq-decides}
use Rattle.eir_term.specs.Maps.{get, image, fact_image}
use Rattle.eir_term.specs.Bind.{bind_as, bind_value, bind_values, bind_fact, bind_facts}
use Rattle.eir_term.specs.Order.{KeepsFixed}
use Rattle.eir_term.proofs.MapLaws.{get-append, get-append_same}

-- g sends what m names where m sends it
abbrev pub Follows : (Val → Val) → List (Val × Val) → Type 0
Follows g m = (v w : Val) → get m v ≡ Some w → g v ≡ w

-- what m sends, n sends alike
abbrev pub IsOver : List (Val × Val) → List (Val × Val) → Type 0
IsOver m n = (v w : Val) → get m v ≡ Some w → get n v ≡ Some w

-- n is over m, and moves no fixed constant if m moves none
pub record Grows (m n : List (Val × Val)) : Type 0 where
  pub over : IsOver m n
  pub keeps : KeepsFixed m → KeepsFixed n

-- m sends v to w; a fixed constant needs no pair
abbrev pub Binds : List (Val × Val) → Val → Val → Type 0
Binds m (Const c) w = get m (Const c) ≡ Some w
Binds m (Fixed k) w = w ≡ Fixed k
Binds m (Null k) w = get m (Null k) ≡ Some w

-- m sends the values vs to the values ws, one by one
abbrev pub AllBind : List (Val × Val) → List Val → List Val → Type 0
AllBind m [] [] = Unit {0}
AllBind m [] (w ∷ ws) = ⊥
AllBind m (v ∷ vs) [] = ⊥
AllBind m (v ∷ vs) (w ∷ ws) = Binds m v w × AllBind m vs ws

-- m sends the fact f to the fact g
abbrev pub FactBinds : List (Val × Val) → Fact → Fact → Type 0
FactBinds m f g = (f.rel ≡ g.rel) × AllBind m f.args g.args

-- m sends the first facts of fs to the facts gs, one by one
abbrev pub FactsBind : List (Val × Val) → List Fact → List Fact → Type 0
FactsBind m fs [] = Unit {0}
FactsBind m [] (g ∷ gs) = ⊥
FactsBind m (f ∷ fs) (g ∷ gs) = FactBinds m f g × FactsBind m fs gs

pub Grows-refl : (m : List (Val × Val)) → Grows m m
Grows-refl m = record { over = λ v w e. e; keeps = λ k. k }

pub Grows-trans : (m n o : List (Val × Val)) → Grows m n → Grows n o → Grows m o
Grows-trans m n o a b = record { over = λ v w e. b.over v w (a.over v w e); keeps = λ k. b.keeps (a.keeps k) }

-- what is sent stays sent
pub Binds-over : (m n : List (Val × Val)) (v w : Val) → IsOver m n → Binds m v w → Binds n v w
Binds-over m n (Const c) w over b = over (Const c) w b
Binds-over m n (Fixed k) w over b = b
Binds-over m n (Null k) w over b = over (Null k) w b

pub AllBind-over : (m n : List (Val × Val)) (vs ws : List Val) → IsOver m n → AllBind m vs ws → AllBind n vs ws
AllBind-over m n [] [] over b = tt
AllBind-over m n [] (w ∷ ws) over b = absurd b
AllBind-over m n (v ∷ vs) [] over b = absurd b
AllBind-over m n (v ∷ vs) (w ∷ ws) over b = (Binds-over m n v w over b.0, AllBind-over m n vs ws over b.1)

-- what is sent is the image
pub Binds-image : (m : List (Val × Val)) (v w : Val) → KeepsFixed m → Binds m v w → image m v ≡ w
Binds-image m (Const c) w keeps b = ap (λ o. unwrap_or o (Const c)) b
Binds-image m (Fixed k) w keeps b = keeps k ∙ sym b
Binds-image m (Null k) w keeps b = ap (λ o. unwrap_or o (Null k)) b

pub AllBind-image : (m : List (Val × Val)) (vs ws : List Val) → KeepsFixed m → AllBind m vs ws → map (image m) vs ≡ ws
AllBind-image m [] [] keeps b = refl
AllBind-image m [] (w ∷ ws) keeps b = absurd b
AllBind-image m (v ∷ vs) [] keeps b = absurd b
AllBind-image m (v ∷ vs) (w ∷ ws) keeps b = ap₂ (λ x xs. x ∷ xs) (Binds-image m v w keeps b.0) (AllBind-image m vs ws keeps b.1)

pub FactBinds-image : (m : List (Val × Val)) (f g : Fact) → KeepsFixed m → FactBinds m f g → fact_image (image m) f ≡ g
FactBinds-image m f g keeps b = ap₂ (λ r vs. let x : Fact = record { rel = r; args = vs } in x) b.0 (AllBind-image m f.args g.args keeps b.1)

-- where all facts are sent, each one is sent to one of the others
pub FactsBind-some : (m : List (Val × Val)) (f : Fact) (fs gs : List Fact) → length gs ≡ length fs → FactsBind m fs gs → f ∈ fs → (g : Fact) × (g ∈ gs) × FactBinds m f g
FactsBind-some m f [] gs l b h = elim h [ ]
FactsBind-some m f (e ∷ fs) [] l b h = absurd (omega arith)
FactsBind-some m f (e ∷ fs) (g ∷ gs) l b (inl p) = (g, inl refl, subst (λ x. FactBinds m x g) (sym p) b.0)
FactsBind-some m f (e ∷ fs) (g ∷ gs) l b (inr h) = let r = FactsBind-some m f fs gs (omega arith) b.1 h in (r.0, inr r.1, r.2)

-- where all facts are sent to their images under F, each one is
pub FactsBind-map : (m : List (Val × Val)) (F : Fact → Fact) (f : Fact) (fs : List Fact) → FactsBind m fs (map F fs) → f ∈ fs → FactBinds m f (F f)
FactsBind-map m F f [] b h = elim h [ ]
FactsBind-map m F f (e ∷ fs) b (inl p) = subst (λ x. FactBinds m x (F x)) (sym p) b.0
FactsBind-map m F f (e ∷ fs) b (inr h) = FactsBind-map m F f fs b.1 h

-- a pair of a new value that is no fixed constant, put last
Grows-append : (m : List (Val × Val)) (v w : Val) → get m v ≡ None → ((k : ℕ) → val_eq v (Fixed k) ≡ false) → Grows m (m ++ (v, w) ∷ [])
Grows-append m v w e free = record {
  over = λ u x h. elim (cases_Bool (val_eq v u))
      [ inl t ↦ absurd (none-some x (sym e ∙ ap (get m) ((val_eq-decides v u).0 t) ∙ h)) | inr t ↦ get-append m v w u e ∙ rw t h ];
  keeps = λ keeps k.
      let old : get (m ++ (v, w) ∷ []) (Fixed k) ≡ get m (Fixed k) = get-append m v w (Fixed k) e ∙ rw (free k) in
      ap (λ o. unwrap_or o (Fixed k)) old ∙ keeps k;
}

-- a map that is followed by what moves no fixed constant moves none
pub Follows-keeps : (g : Val → Val) (m : List (Val × Val)) → ((k : ℕ) → g (Fixed k) ≡ Fixed k) → Follows g m → KeepsFixed m
Follows-keeps g m fixed follows k = by (get m (Fixed k)) refl
  where
    by : (o : Option Val) → get m (Fixed k) ≡ o → unwrap_or o (Fixed k) ≡ Fixed k
    by None e = refl
    by (Some w) e = sym (follows (Fixed k) w e) ∙ fixed k

Follows-append : (g : Val → Val) (m : List (Val × Val)) (v : Val) → get m v ≡ None → Follows g m → Follows g (m ++ (v, g v) ∷ [])
Follows-append g m v e follows u x h = elim (cases_Bool (val_eq v u)) [
  | inl t ↦ (let k : Some (g v) ≡ Some x = sym (get-append m v (g v) u e ∙ rw t) ∙ h in sym (ap g ((val_eq-decides v u).0 t)) ∙ same_Some (g v) x k)
  | inr t ↦ (let k : get m u ≡ Some x = sym (get-append m v (g v) u e ∙ rw t) ∙ h in follows u x k)
]

-- the map that was made keeps what it had and sends what it was asked to send
bind_as-sound : (o : Option Val) (m n : List (Val × Val)) (v w : Val) → get m v ≡ o → ((k : ℕ) → val_eq v (Fixed k) ≡ false) → bind_as o m v w ≡ Some n → Grows m n × (get n v ≡ Some w)
bind_as-sound None m n v w e free h =
    subst (λ x. Grows m x × (get x v ≡ Some w)) (same_Some (m ++ (v, w) ∷ []) n h) (Grows-append m v w e free, get-append_same m v w e)
bind_as-sound (Some u) m n v w e free h =
    let r = cond_some (val_eq u w) m n h in
    subst (λ x. Grows m x × (get x v ≡ Some w)) r.1 (Grows-refl m, e ∙ ap Some ((val_eq-decides u w).0 r.0))

pub bind_value-sound : (m n : List (Val × Val)) (v w : Val) → bind_value m v w ≡ Some n → Grows m n × Binds n v w
bind_value-sound m n (Const c) w h = bind_as-sound (get m (Const c)) m n (Const c) w refl (λ k. refl) h
bind_value-sound m n (Fixed k) w h =
    let r = cond_some (val_eq (Fixed k) w) m n h in
    subst (λ x. Grows m x × (w ≡ Fixed k)) r.1 (Grows-refl m, sym ((val_eq-decides (Fixed k) w).0 r.0))
bind_value-sound m n (Null k) w h = bind_as-sound (get m (Null k)) m n (Null k) w refl (λ j. refl) h

pub bind_values-sound : (m n : List (Val × Val)) (vs ws : List Val) → bind_values m vs ws ≡ Some n → Grows m n × AllBind n vs ws
bind_values-sound m n [] [] h = subst (λ x. Grows m x × Unit {0}) (same_Some m n h) (Grows-refl m, tt)
bind_values-sound m n [] (w ∷ ws) h = absurd (none-some n h)
bind_values-sound m n (v ∷ vs) [] h = absurd (none-some n h)
bind_values-sound m n (v ∷ vs) (w ∷ ws) h = option_and_then_some (λ o. bind_values o vs ws) (bind_value m v w) n h (λ o e k.
    let first = bind_value-sound m o v w e in
    let rest = bind_values-sound o n vs ws k in
    (Grows-trans m o n first.0 rest.0, (Binds-over o n v w (rest.0).over first.1, rest.1)))

pub bind_fact-sound : (m n : List (Val × Val)) (f g : Fact) → bind_fact m f g ≡ Some n → Grows m n × FactBinds n f g
bind_fact-sound m n f g h = elim (cases_Bool (f.rel == g.rel)) [
  | inl t ↦ (let k : bind_values m f.args g.args ≡ Some n = sym (rw t) ∙ h in
      let r = bind_values-sound m n f.args g.args k in (r.0, (eqb-true f.rel g.rel t, r.1)))
  | inr t ↦ (let k : None ≡ Some n = sym (rw t) ∙ h in absurd (none-some n k))
]

pub bind_facts-sound : (m n : List (Val × Val)) (fs gs : List Fact) → bind_facts m fs gs ≡ Some n → Grows m n × FactsBind n fs gs
bind_facts-sound m n fs [] h = subst (λ x. Grows m x × Unit {0}) (same_Some m n h) (Grows-refl m, tt)
bind_facts-sound m n [] (g ∷ gs) h = absurd (none-some n h)
bind_facts-sound m n (f ∷ fs) (g ∷ gs) h = option_and_then_some (λ o. bind_facts o fs gs) (bind_fact m f g) n h (λ o e k.
    let first = bind_fact-sound m o f g e in
    let rest = bind_facts-sound o n fs gs k in
    (Grows-trans m o n first.0 rest.0, (((first.1).0, AllBind-over o n f.args g.args (rest.0).over (first.1).1), rest.1)))

-- where some function that keeps the fixed constants follows the map and does what is asked, the least map is there,
-- and the function follows it
module _ (g : Val → Val) (fixed : (k : ℕ) → g (Fixed k) ≡ Fixed k) where
  bind_as-complete : (o : Option Val) (m : List (Val × Val)) (v : Val) → get m v ≡ o → Follows g m → (n : List (Val × Val)) × (bind_as o m v (g v) ≡ Some n) × Follows g n
  bind_as-complete None m v e follows = (m ++ (v, g v) ∷ [], refl, Follows-append g m v e follows)
  bind_as-complete (Some u) m v e follows = (m, rw ((val_eq-decides u (g v)).1 (sym (follows v u e))), follows)

  pub bind_value-complete : (m : List (Val × Val)) (v : Val) → Follows g m → (n : List (Val × Val)) × (bind_value m v (g v) ≡ Some n) × Follows g n
  bind_value-complete m (Const c) follows = bind_as-complete (get m (Const c)) m (Const c) refl follows
  bind_value-complete m (Fixed k) follows = (m, rw ((val_eq-decides (Fixed k) (g (Fixed k))).1 (sym (fixed k))), follows)
  bind_value-complete m (Null k) follows = bind_as-complete (get m (Null k)) m (Null k) refl follows

  pub bind_values-complete : (m : List (Val × Val)) (vs : List Val) → Follows g m → (n : List (Val × Val)) × (bind_values m vs (map g vs) ≡ Some n) × Follows g n
  bind_values-complete m [] follows = (m, refl, follows)
  bind_values-complete m (v ∷ vs) follows =
      let first = bind_value-complete m v follows in
      let rest = bind_values-complete first.0 vs first.2 in
      (rest.0, rw first.1 rest.1, rest.2)

  pub bind_fact-complete : (m : List (Val × Val)) (f : Fact) → Follows g m → (n : List (Val × Val)) × (bind_fact m f (fact_image g f) ≡ Some n) × Follows g n
  bind_fact-complete m f follows =
      let r = bind_values-complete m f.args follows in
      (r.0, rw (eq-eqb f.rel f.rel refl) r.1, r.2)

  pub bind_facts-complete : (m : List (Val × Val)) (fs : List Fact) (k : ℕ) → Follows g m → (n : List (Val × Val)) × (bind_facts m fs (map (fact_image g) (take k fs)) ≡ Some n) × Follows g n
  bind_facts-complete m [] zero follows = (m, refl, follows)
  bind_facts-complete m [] (suc k) follows = (m, refl, follows)
  bind_facts-complete m (f ∷ fs) zero follows = (m, refl, follows)
  bind_facts-complete m (f ∷ fs) (suc k) follows =
      let first = bind_fact-complete m f follows in
      let rest = bind_facts-complete first.0 fs k first.2 in
      (rest.0, rw first.1 rest.1, rest.2)
