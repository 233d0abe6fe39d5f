-- Columns and what they bind. The point is `ready-new`, `ready-same` and `ready-other`: what binding one column does.
use Rattle.std.proofs.Common.{◌≡◌, ◌≢◌, ℕ, ◌<◌, ◌==◌, Bool, true, false, not, List, [], ◌∷◌, ◌++◌, length, take, set, get_or, Option, Some, None, is_some, ◌⊎◌, inl, inr, refl, ap, sym, ◌∙◌, arith}
use Rattle.std.proofs.lemmas.Bool.Decides.{nat_tests}
use Rattle.std.proofs.lemmas.List.{take-map, get_or-set_same, get_or-set_other, map-set, set-get_or, get_or-map, length-map}
use Rattle.eir_hom.specs.declared.columns.Column.{Column}
use Rattle.eir_hom.specs.Matching.{Bindings, bound_to, bind_slot}
use Rattle.eir_hom.specs.Columns.{is_among, seen_after, slots_of, AreBelow, AreColumns, Holds, Binds, AreReady}

pub same-true : (m n : ℕ) → (m == n) ≡ true → m ≡ n
same-true m n h = grind (arith, nat_tests)

pub same-refl : (n : ℕ) → (n == n) ≡ true
same-refl n = grind (arith, nat_tests)

pub same-false : (m n : ℕ) → m ≢ n → (m == n) ≡ false
same-false m n h = grind (arith, nat_tests)

pub other-false : (m n : ℕ) → (m == n) ≡ false → m ≢ n
other-false m n h = grind (arith, nat_tests)

pub cases-bool : (b : Bool) → (b ≡ true) ⊎ (b ≡ false)
cases-bool true = inl refl
cases-bool false = inr refl

pub cases-option : {X : Type 0} (o : Option X) → (o ≡ None) ⊎ ((x : X) × (o ≡ Some x))
cases-option None = inl refl
cases-option (Some x) = inr (x, refl)

-- what a longer list of bindings binds
pub bound-kept : (m : Bindings) (p : ℕ × ℕ) (s w : ℕ) → bound_to m s ≡ Some w → bound_to (m ++ p ∷ []) s ≡ Some w
bound-kept [] p s w h = cc
bound-kept (q ∷ m) p s w h =
    elim (cases-bool (q.0 == s)) [
      | inl e ↦ rw e (rw e at h)
      | inr e ↦ rw e (bound-kept m p s w (rw e at h))
    ]

pub bound-last : (m : Bindings) (s w : ℕ) → bound_to m s ≡ None → bound_to (m ++ (s, w) ∷ []) s ≡ Some w
bound-last [] s w h = rw (same-refl s) refl
bound-last (q ∷ m) s w h =
    elim (cases-bool (q.0 == s)) [
      | inl e ↦ absurd (let k = rw e at h in cc)
      | inr e ↦ rw e (bound-last m s w (rw e at h))
    ]

pub bound-other : (m : Bindings) (t w s : ℕ) → (t == s) ≡ false → bound_to (m ++ (t, w) ∷ []) s ≡ bound_to m s
bound-other [] t w s h = rw h refl
bound-other (q ∷ m) t w s h =
    elim (cases-bool (q.0 == s)) [
      | inl e ↦ rw e refl
      | inr e ↦ rw e (bound-other m t w s h)
    ]

-- a slot that is not bound yet is bound at the end
pub holds-new : (images : List ℕ) (m : Bindings) (s w : ℕ) → s < length images → bound_to m s ≡ None →
    Holds images m → Holds (set images s w) (m ++ (s, w) ∷ [])
holds-new images m s w lt none h = record { images_are = at }
  where
    at : (t u : ℕ) → bound_to (m ++ (s, w) ∷ []) t ≡ Some u → get_or (set images s w) t 0 ≡ u
    at t u e =
        elim (cases-bool (s == t)) [
          | inl same ↦ (
              let st : s ≡ t = same-true s t same in
              let last : bound_to (m ++ (s, w) ∷ []) t ≡ Some w = ap (bound_to (m ++ (s, w) ∷ [])) (sym st) ∙ bound-last m s w none in
              let wu : w ≡ u = cc in
              ap (λ k. get_or (set images s w) k 0) (sym st) ∙ get_or-set_same images s w 0 lt ∙ wu
              )
          | inr other ↦ (
              let ts : t ≢ s = λ e'. other-false s t other (sym e') in
              get_or-set_other images s t w 0 ts ∙ h.images_are t u (sym (bound-other m s w t other) ∙ e)
              )
        ]

pub binds-new : (m : Bindings) (seen : List ℕ) (s w : ℕ) → bound_to m s ≡ None → Binds m seen →
    Binds (m ++ (s, w) ∷ []) (s ∷ seen)
binds-new m seen s w none h = record { slots_are = at }
  where
    at : (t : ℕ) → is_some (bound_to (m ++ (s, w) ∷ []) t) ≡ is_among t (s ∷ seen)
    at t =
        elim (cases-bool (s == t)) [
          | inl same ↦ (
              let st : s ≡ t = same-true s t same in
              rw same (ap is_some (ap (bound_to (m ++ (s, w) ∷ [])) (sym st) ∙ bound-last m s w none))
              )
          | inr other ↦ rw other (ap is_some (bound-other m s w t other) ∙ h.slots_are t)
        ]

pub binds-again : (m : Bindings) (seen : List ℕ) (s w : ℕ) → bound_to m s ≡ Some w → Binds m seen → Binds m (s ∷ seen)
binds-again m seen s w some h = record { slots_are = at }
  where
    at : (t : ℕ) → is_some (bound_to m t) ≡ is_among t (s ∷ seen)
    at t =
        elim (cases-bool (s == t)) [
          | inl same ↦ rw same (ap is_some (ap (bound_to m) (sym (same-true s t same)) ∙ some))
          | inr other ↦ rw other (h.slots_are t)
        ]

-- the first bindings are among the second
pub record IsWithin (m n : Bindings) : Type 0 where
  pub kept : (s w : ℕ) → bound_to m s ≡ Some w → bound_to n s ≡ Some w

pub within-refl : (m : Bindings) → IsWithin m m
within-refl m = record { kept = λ s w e. e }

pub within-new : (m n : Bindings) (s w : ℕ) → IsWithin m n → IsWithin m (n ++ (s, w) ∷ [])
within-new m n s w h = record { kept = λ t u e. bound-kept n (s, w) t u (h.kept t u e) }

pub within-trans : (m n o : Bindings) → IsWithin m n → IsWithin n o → IsWithin m o
within-trans m n o h k = record { kept = λ t u e. k.kept t u (h.kept t u e) }

pub holds-within : (images : List ℕ) (m n : Bindings) → IsWithin m n → Holds images n → Holds images m
holds-within images m n h k = record { images_are = λ s w e. k.images_are s w (h.kept s w e) }

-- what a column binds where it is new
pub record Bound (m : Bindings) (cs : List Column) (images : List ℕ) (s w : ℕ) : Type 0 where
  pub next : Bindings
  pub bound : bind_slot m s w ≡ Some next
  pub within : IsWithin m next
  pub ready : AreReady next cs images

pub ready-new : (m : Bindings) (c : Column) (cs : List Column) (images : List ℕ) (w : ℕ) → c.slot < length images →
    c.is_new ≡ true → AreReady m (c ∷ cs) images → Bound m cs (set images c.slot w) c.slot w
ready-new m c cs images w lt new r =
    elim (cases-option (bound_to m c.slot)) [
      | inl none ↦ (record {
        next = m ++ (c.slot, w) ∷ [];
        bound = rw none refl;
        within = within-new m m c.slot w (within-refl m);
        ready = record {
          seen = c.slot ∷ r.seen;
          binds = binds-new m r.seen c.slot w none r.binds;
          columns = r.columns.1;
          holds = holds-new images m c.slot w lt none r.holds;
        };
      })
      | inr (u, some) ↦ absurd (let e : is_some (bound_to m c.slot) ≡ true = ap is_some some in let f = r.binds.slots_are c.slot in let g = r.columns.0 in let k : not true ≡ true = sym (ap not (sym f ∙ e)) ∙ sym g ∙ new in cc)
    ]

pub old-bound : (m : Bindings) (c : Column) (cs : List Column) (images : List ℕ) → c.is_new ≡ false →
    AreReady m (c ∷ cs) images → bound_to m c.slot ≡ Some (get_or images c.slot 0)
old-bound m c cs images old r =
    elim (cases-option (bound_to m c.slot)) [
      | inl none ↦ absurd (let e : is_some (bound_to m c.slot) ≡ false = ap is_some none in let f = r.binds.slots_are c.slot in let g = r.columns.0 in let k : not false ≡ false = sym (ap not (sym f ∙ e)) ∙ sym g ∙ old in cc)
      | inr (u, some) ↦ some ∙ ap Some (sym (r.holds.images_are c.slot u some))
    ]

pub ready-same : (m : Bindings) (c : Column) (cs : List Column) (images : List ℕ) (w : ℕ) → c.is_new ≡ false →
    get_or images c.slot 0 ≡ w → AreReady m (c ∷ cs) images → Bound m cs images c.slot w
ready-same m c cs images w old same r =
    let some : bound_to m c.slot ≡ Some w = old-bound m c cs images old r ∙ ap Some same in
    record {
      next = m;
      bound = rw (some, same-refl w) refl;
      within = within-refl m;
      ready = record { seen = c.slot ∷ r.seen; binds = binds-again m r.seen c.slot w some r.binds; columns = r.columns.1; holds = r.holds };
    }

pub ready-other : (m : Bindings) (c : Column) (cs : List Column) (images : List ℕ) (w : ℕ) → c.is_new ≡ false →
    get_or images c.slot 0 ≢ w → AreReady m (c ∷ cs) images → bind_slot m c.slot w ≡ None
ready-other m c cs images w old other r = rw (old-bound m c cs images old r, same-false (get_or images c.slot 0) w other) refl

-- marking columns one by one
pub columns-push : (seen : List ℕ) (cs : List Column) (c : Column) → AreColumns seen cs →
    c.is_new ≡ not (is_among c.slot (seen_after seen (slots_of cs))) → AreColumns seen (cs ++ c ∷ [])
columns-push seen [] c h e = (e, tt)
columns-push seen (b ∷ cs) c h e = (h.0, columns-push (b.slot ∷ seen) cs c h.1 e)

pub seen_after-push : (seen ss : List ℕ) (s : ℕ) → seen_after seen (ss ++ s ∷ []) ≡ s ∷ seen_after seen ss
seen_after-push seen [] s = refl
seen_after-push seen (t ∷ ss) s = seen_after-push (t ∷ seen) ss s

pub marked-at : (bound : List Bool) (seen : List ℕ) (t s : ℕ) → t < length bound →
    get_or bound s false ≡ is_among s seen → get_or (set bound t true) s false ≡ is_among s (t ∷ seen)
marked-at bound seen t s lt h =
    elim (cases-bool (t == s)) [
      | inl same ↦ rw same (ap (λ k. get_or (set bound t true) k false) (sym (same-true t s same)) ∙ get_or-set_same bound t true false lt)
      | inr other ↦ rw other (get_or-set_other bound t s true false (λ e. other-false t s other (sym e)) ∙ h)
    ]

pub slots-set : (cs : List Column) (i : ℕ) (c d : Column) → i < length cs → c.slot ≡ (get_or cs i d).slot →
    slots_of (set cs i c) ≡ slots_of cs
slots-set cs i c d lt e =
    map-set (λ b. b.slot) cs i c ∙ ap (set (slots_of cs) i) (e ∙ sym (get_or-map (λ b. b.slot) cs i d 0 lt)) ∙ set-get_or (slots_of cs) i 0

pub slot-below : (cs : List Column) (n i : ℕ) (d : Column) → AreBelow (slots_of cs) n → i < length cs →
    (get_or cs i d).slot < n
slot-below cs n i d h lt =
    let e : get_or (slots_of cs) i 0 ≡ (get_or cs i d).slot = get_or-map (λ b. b.slot) cs i d 0 lt in
    let k : get_or (slots_of cs) i 0 < n = h i (rw (length-map cs (λ b. b.slot)) lt) in
    rw (← e) k

-- the same where the slots are those of other columns
pub slot-below_as : (cs old : List Column) (n i : ℕ) (d : Column) → AreBelow (slots_of old) n →
    slots_of cs ≡ slots_of old → i < length cs → (get_or cs i d).slot < n
slot-below_as cs old n i d h e lt = slot-below cs n i d (rw e h) lt

pub take-slots : (n : ℕ) (cs : List Column) → take n (slots_of cs) ≡ slots_of (take n cs)
take-slots n cs = take-map (λ b. b.slot) n cs
