-- Columns: how they are linked, and how many have a value.
use Rattle.std.proofs.Common.{◌≡◌, ℕ, zero, suc, ◌+◌, ◌-◌, ◌<◌, ◌≤◌, nat_eq, inl, inr, Bool, true, false, ◌&&◌, ◌||◌, cond, List, [], ◌∷◌, length, get_or, take, refl, sym, ◌∙◌, subst, arith, eq-eqb, ne_eqb}
use Rattle.std.proofs.Math.ListN.{set}
use Rattle.std.proofs.lemmas.Bool.{cases_Bool, cases_eq}
use Rattle.std.proofs.lemmas.List.{get_or-set_same, get_or-set_other, length-set, take_all}
use Rattle.std.proofs.Math.Bool.{or-true, or-false}
use Rattle.std.proofs.lemmas.List.Filters.{length-filter_more}
use Rattle.eir_hom.specs.declared.occurrences.Column.{Column}
use Rattle.eir_hom.specs.Occurring.{column_at, IsNextOf, AreLinkedFrom, occurring, is_marked, known_columns, columns_at}

-- ---- links

-- where nothing is linked yet, each link is the end
pub linked-none : (cs : List Column) (firsts nexts : List ℕ) → length nexts ≡ length cs → ((v : ℕ) → v < length firsts → get_or firsts v 0 ≡ length cs) → AreLinkedFrom cs (length cs) firsts nexts
linked-none cs firsts nexts many ends = record {
  as_many = many;
  first = λ v l. rw (ends v l) (record { from = omega arith; within = omega arith; here = λ h. absurd (omega arith); none = λ j h k e. absurd (omega arith) });
  next = λ k h l. absurd (omega arith);
}

-- one column more is linked
pub linked-more : (cs : List Column) (firsts nexts : List ℕ) (i v : ℕ) → i < length cs → v < length firsts → (column_at cs i).value ≡ v → AreLinkedFrom cs (suc i) firsts nexts →
    AreLinkedFrom cs i (set firsts v i) (set nexts i (get_or firsts v 0))
linked-more cs firsts nexts i v l w is d = record {
  as_many = length-set nexts i _ ∙ d.as_many;
  first = λ u m. let long = length-set firsts v i in elim (cases_eq u v) [
    | inl e ↦ rw (e, get_or-set_same firsts v i 0 w) (record { from = omega arith; within = omega arith; here = λ h. is; none = λ j h k q. absurd (omega arith) })
    | inr ne ↦ rw (get_or-set_other firsts v u i 0 ne) (earlier u (get_or firsts u 0) (λ e. ne (sym e ∙ is)) (d.first u (omega arith)))
  ];
  next = λ k h m. let long = d.as_many in elim (cases_eq k i) [
    | inl e ↦ rw (e, get_or-set_same nexts i (get_or firsts v 0) 0 (omega arith), is) (d.first v w)
    | inr ne ↦ rw (get_or-set_other nexts i k (get_or firsts v 0) 0 ne) (d.next k (omega arith) m)
  ];
}
  where
    earlier : (u k : ℕ) → ((column_at cs i).value ≡ u → ⊥) → IsNextOf cs u (suc i) k → IsNextOf cs u i k
    earlier u k other n = let h = n.from in record {
      from = omega arith;
      within = n.within;
      here = n.here;
      none = λ j a b e. elim (cases_eq j i) [ inl q ↦ other (subst (λ (x : ℕ). (column_at cs x).value ≡ u) q e) | inr ne ↦ n.none j (omega arith) b e ];
    }

-- ---- counts

-- one column more
occurring-more : (cs : List Column) (v p k : ℕ) → k < length cs → occurring (take (k + 1) cs) v p ≡ occurring (take k cs) v p + cond (nat_eq (column_at cs k).fact p && nat_eq (column_at cs k).value v) 1 0
occurring-more cs v p k l = length-filter_more (λ c. nat_eq c.fact p && nat_eq c.value v) cs k (record { fact = 0; value = 0 }) l

-- a column with the value counts at its fact
pub occurring-here : (cs : List Column) (v p k : ℕ) → k < length cs → (column_at cs k).value ≡ v → (column_at cs k).fact ≡ p → occurring (take (k + 1) cs) v p ≡ occurring (take k cs) v p + 1
occurring-here cs v p k l e f = occurring-more cs v p k l ∙ rw (eq-eqb (column_at cs k).fact p f, eq-eqb (column_at cs k).value v e) refl

-- and at no other
pub occurring-elsewhere : (cs : List Column) (v p k : ℕ) → k < length cs → ((column_at cs k).fact ≡ p → ⊥) → occurring (take (k + 1) cs) v p ≡ occurring (take k cs) v p
occurring-elsewhere cs v p k l ne = occurring-more cs v p k l ∙ rw (ne_eqb (column_at cs k).fact p ne) (omega arith)

-- a column without the value does not count
occurring-apart : (cs : List Column) (v p k : ℕ) → k < length cs → ((column_at cs k).value ≡ v → ⊥) → occurring (take (k + 1) cs) v p ≡ occurring (take k cs) v p
occurring-apart cs v p k l ne = occurring-more cs v p k l ∙ elim (cases_Bool (nat_eq (column_at cs k).fact p)) [
  | inl t ↦ rw (t, ne_eqb (column_at cs k).value v ne) (omega arith)
  | inr t ↦ rw t (omega arith)
]

-- so columns that are passed over do not count
passed-over : (cs : List Column) (v p i d : ℕ) → i + d ≤ length cs → ((j : ℕ) → i ≤ j → j < i + d → (column_at cs j).value ≡ v → ⊥) → occurring (take (i + d) cs) v p ≡ occurring (take i cs) v p
passed-over cs v p i zero l none = let e : i + 0 ≡ i = omega arith in rw e refl
passed-over cs v p i (suc d) l none =
    let e : i + suc d ≡ (i + d) + 1 = omega arith in
    rw e (occurring-apart cs v p (i + d) (omega arith) (none (i + d) (omega arith) (omega arith)) ∙ passed-over cs v p i d (omega arith) (λ j a b. none j a (omega arith)))

pub occurring-next : (cs : List Column) (v p i k : ℕ) → IsNextOf cs v i k → occurring (take k cs) v p ≡ occurring (take i cs) v p
occurring-next cs v p i k n =
    let h = n.from in
    let w = n.within in
    let e : k ≡ i + (k - i) = omega arith in
    rw e (passed-over cs v p i (k - i) (omega arith) (λ j a b. n.none j a (omega arith)))

-- a part has no more than the whole
occurring-part : (cs : List Column) (v p i d : ℕ) → i + d ≤ length cs → occurring (take i cs) v p ≤ occurring (take (i + d) cs) v p
occurring-part cs v p i zero l = let e : i + 0 ≡ i = omega arith in rw e (omega arith)
occurring-part cs v p i (suc d) l =
    let e : i + suc d ≡ (i + d) + 1 = omega arith in
    let r = occurring-part cs v p i d (omega arith) in
    let m = occurring-more cs v p (i + d) (omega arith) in
    rw e (omega arith)

pub occurring-take : (cs : List Column) (v p i : ℕ) → i ≤ length cs → occurring (take i cs) v p ≤ occurring cs v p
occurring-take cs v p i l =
    let e : i + (length cs - i) ≡ length cs = omega arith in
    let h = occurring-part cs v p i (length cs - i) (omega arith) in
    let whole : take (i + (length cs - i)) cs ≡ cs = rw e (take_all (length cs) cs (omega arith)) in
    subst (λ (ds : List Column). occurring (take i cs) v p ≤ occurring ds v p) whole h

-- ---- marks

-- a mark at v shows at v alone
is_marked-here : (known : List Bool) (v : ℕ) → v < length known → is_marked (set known v true) v ≡ true
is_marked-here known v l = get_or-set_same known v true false l

is_marked-elsewhere : (known : List Bool) (v u : ℕ) → (u ≡ v → ⊥) → is_marked (set known v true) u ≡ is_marked known u
is_marked-elsewhere known v u ne = get_or-set_other known v u true false ne

-- after another mark
pub is_marked-set : (known : List Bool) (v u : ℕ) → v < length known → is_marked (set known v true) u ≡ (is_marked known u || nat_eq u v)
is_marked-set known v u l = elim (cases_eq u v) [
  | inl e ↦ rw (e, is_marked-here known v l, eq-eqb v v refl) (sym (or-true (is_marked known v)))
  | inr ne ↦ rw (is_marked-elsewhere known v u ne, ne_eqb u v ne) (sym (or-false (is_marked known u)))
]

-- where v becomes known, the columns that have it are known beside those that were
pub known_columns-set : (cs : List Column) (known : List Bool) (v p : ℕ) → is_marked known v ≡ false → v < length known →
    known_columns cs (set known v true) p ≡ known_columns cs known p + occurring cs v p
known_columns-set [] known v p new l = refl
known_columns-set (c ∷ cs) known v p new l =
    let rest = known_columns-set cs known v p new l in
    elim (cases_Bool (nat_eq c.fact p)) [
      | inr f ↦ rw f rest
      | inl t ↦ elim (cases_eq c.value v) [
        | inl e ↦ (let a = eq-eqb c.value v e in let b : is_marked (set known v true) c.value ≡ true = rw e (is_marked-here known v l) in let d : is_marked known c.value ≡ false = rw e new in
            rw (t, a, b, d) (omega arith))
        | inr ne ↦ (let a = ne_eqb c.value v ne in let b = is_marked-elsewhere known v c.value ne in elim (cases_Bool (is_marked known c.value)) [ inl m ↦ rw (t, a, b, m) (omega arith) | inr m ↦ rw (t, a, b, m) rest ])
      ]
    ]

-- no more columns are known than there are
pub known_columns-most : (cs : List Column) (known : List Bool) (p : ℕ) → known_columns cs known p ≤ columns_at cs p
known_columns-most [] known p = omega arith
known_columns-most (c ∷ cs) known p =
    let rest = known_columns-most cs known p in
    elim (cases_Bool (nat_eq c.fact p)) [
      | inr f ↦ rw f rest
      | inl t ↦ elim (cases_Bool (is_marked known c.value)) [ inl m ↦ rw (t, m) (omega arith) | inr m ↦ rw (t, m) (omega arith) ]
    ]
