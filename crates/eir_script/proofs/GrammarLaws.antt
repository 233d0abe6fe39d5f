-- The grammar's laws: a line is read as s exactly where it says s, and as blank exactly where it is blank.
-- `reading-says`, `says-reading`, `reading-blank` and `blank-reading`, at the end, state this; what stands before them
-- is, part by part, that lexemes that are read as something are those of its tokens, and the other way.
use Rattle.std.proofs.Common.{◌≡◌, ◌⊎◌, inl, inr, ℕ, ◌≤◌, ◌<◌, ◌^◌, true, false, cond, ◌==◌, ◌&&◌, List, [], ◌∷◌, ◌++◌, map, length, Option, Some, None, refl, sym, ◌∙◌, ap, ap₂, subst, arith}
use Rattle.std.specs.Prelude.{nat_le, nat_lt, find, option_map, option_and_then, codes, decimal}
use Rattle.std.specs.List.{AllByRecursion, list_any}
use Rattle.std.specs.Str.{bytes_eq}
use Rattle.std.specs.Str.Parse.{digits_value}
use Rattle.std.proofs.lemmas.Bool.{cases_Bool, or_cases, false≢true, and_parts, le-leb, leb-true, lt-ltb, ltb-true, eqb-true}
use Rattle.std.proofs.lemmas.Fmt.{decimal_is_IsNumeral}
use Rattle.std.proofs.lemmas.Slice.Eq.{bytes_eq-Decides}
use Rattle.eir_term.specs.declared.val.Side.{Side}
use Rattle.eir_term.specs.declared.val.Side.TheVariants.{Source, Target}
use Rattle.eir_term.specs.declared.val.Kind.{Kind}
use Rattle.eir_term.specs.declared.val.Kind.TheVariants.{Glav, Gav}
use Rattle.eir_script.specs.declared.token.Sign.TheVariants.{OpenBracket, CloseBracket, Comma, Ampersand, Dot, Arrow}
use Rattle.eir_script.specs.declared.keyword.Keyword.{Keyword}
use Rattle.eir_script.specs.declared.keyword.Keyword.TheVariants as keyword
use Rattle.eir_script.specs.Grammar.{name, sign, is_gap, AreGaps, Argument, constant, labelled, WrittenFact, Said, declare, new, put, cut, drop, undo, take, kind, budget, fit, tries, reduce, chase, cert, table, exchange, side_word, kind_word, argument_token, listed, applied, fact_tokens, tokens_of, IsFilled, IsWhole, IsSpelled, Says, IsBlank}
use Rattle.eir_script.specs.Reading.{Lexeme, run, label, mark, lexemes, read_by, alone, one_word, two_words, argument_of, arguments_of, written, fact_of, is_labelled, argument_name, declared_as, declaration_of, example_and_fact, kind_of, number_of, budget_of, keywords, keyword_of, said_after, said_by, bad, blank, says, is_blank, says_or_bad, reading_of_any, reading}
use Rattle.eir_script.proofs.LexemeLaws.{lexeme_of, lexemes-gaps, lexemes-spelled, Spells-lexemes, cond-cases, map-some, then-some}

-- the lexemes of the tokens of what is said
abbrev pub lexemes_of : Said → List Lexeme
lexemes_of s = map lexeme_of (tokens_of s)

same-bytes : (v w : List ℕ) → bytes_eq v w ≡ true → v ≡ w
same-bytes v w t = (bytes_eq-Decides v w).0 t

-- ---- what is read has these lexemes

alone-is : (s : Said) (ls : List Lexeme) (r : Said) → alone s ls ≡ Some r → (ls ≡ []) × (s ≡ r)
alone-is s [] r e = (refl, cc)
alone-is s (l ∷ ls) r e = absurd cc

one_word-is : (ls : List Lexeme) (w : List ℕ) → one_word ls ≡ Some w → ls ≡ run w ∷ []
one_word-is [] w e = absurd cc
one_word-is (run v ∷ []) w e = let k : v ≡ w = cc in ap (λ x. run x ∷ []) k
one_word-is (run v ∷ l ∷ ls) w e = absurd cc
one_word-is (label v ∷ ls) w e = absurd cc
one_word-is (mark r ∷ ls) w e = absurd cc

two_words-is : (ls : List Lexeme) (p : List ℕ × List ℕ) → two_words ls ≡ Some p → ls ≡ run p.0 ∷ run p.1 ∷ []
two_words-is [] p e = absurd cc
two_words-is (run v ∷ []) p e = absurd cc
two_words-is (run v ∷ run w ∷ []) p e = let k : (v, w) ≡ p = cc in ap (λ (q : List ℕ × List ℕ). run q.0 ∷ run q.1 ∷ []) k
two_words-is (run v ∷ run w ∷ l ∷ ls) p e = absurd cc
two_words-is (run v ∷ label w ∷ ls) p e = absurd cc
two_words-is (run v ∷ mark r ∷ ls) p e = absurd cc
two_words-is (label v ∷ ls) p e = absurd cc
two_words-is (mark r ∷ ls) p e = absurd cc

argument_of-is : (l : Lexeme) (a : Argument) → argument_of l ≡ Some a → lexeme_of (argument_token a) ≡ l
argument_of-is (run w) a e = let k : constant w ≡ a = cc in ap (λ x. lexeme_of (argument_token x)) (sym k)
argument_of-is (label w) a e = let k : labelled w ≡ a = cc in ap (λ x. lexeme_of (argument_token x)) (sym k)
argument_of-is (mark r) a e = absurd cc

-- the lexemes of arguments with commas between them and a closing bracket behind them
abbrev list_lexemes : List Argument → List Lexeme
list_lexemes all = map lexeme_of (listed (map argument_token all) ++ sign CloseBracket ∷ [])

list_lexemes-more : (a : Argument) (all : List Argument) → IsFilled all → list_lexemes (a ∷ all) ≡ lexeme_of (argument_token a) ∷ mark Comma ∷ list_lexemes all
list_lexemes-more a [] f = absurd f
list_lexemes-more a (b ∷ all) f = refl

arguments_of-is : (ls : List Lexeme) (all : List Argument) → arguments_of ls ≡ Some all → (list_lexemes all ≡ ls) × IsFilled all
arguments_of-is [] all e = absurd cc
arguments_of-is (l ∷ []) all e = absurd cc
arguments_of-is (l ∷ run w ∷ ls) all e = absurd cc
arguments_of-is (l ∷ label w ∷ ls) all e = absurd cc
arguments_of-is (l ∷ mark OpenBracket ∷ ls) all e = absurd cc
arguments_of-is (l ∷ mark Ampersand ∷ ls) all e = absurd cc
arguments_of-is (l ∷ mark Dot ∷ ls) all e = absurd cc
arguments_of-is (l ∷ mark Arrow ∷ ls) all e = absurd cc
arguments_of-is (l ∷ mark CloseBracket ∷ u ∷ ls) all e = absurd cc
arguments_of-is (l ∷ mark CloseBracket ∷ []) all e =
    let a = map-some (λ a. a ∷ []) (argument_of l) all e in
    subst (λ xs. (list_lexemes xs ≡ l ∷ mark CloseBracket ∷ []) × IsFilled xs) a.2 (ap (λ x. x ∷ mark CloseBracket ∷ []) (argument_of-is l a.0 a.1), tt)
arguments_of-is (l ∷ mark Comma ∷ ls) all e =
    let a = then-some (λ a. option_map (λ more. a ∷ more) (arguments_of ls)) (argument_of l) all e in
    let m = map-some (λ more. a.0 ∷ more) (arguments_of ls) all a.2 in
    let rest = arguments_of-is ls m.0 m.1 in
    subst (λ xs. (list_lexemes xs ≡ l ∷ mark Comma ∷ ls) × IsFilled xs) m.2 (
      list_lexemes-more a.0 m.0 rest.1 ∙ ap₂ (λ x xs. x ∷ mark Comma ∷ xs) (argument_of-is l a.0 a.1) rest.0,
      tt,
    )

fact_of-is : (ls : List Lexeme) (f : WrittenFact) → fact_of ls ≡ Some f → (map lexeme_of (fact_tokens f) ≡ ls) × IsFilled f.arguments
fact_of-is [] f e = absurd cc
fact_of-is (label w ∷ ls) f e = absurd cc
fact_of-is (mark r ∷ ls) f e = absurd cc
fact_of-is (run r ∷ []) f e = absurd cc
fact_of-is (run r ∷ run w ∷ ls) f e = absurd cc
fact_of-is (run r ∷ label w ∷ ls) f e = absurd cc
fact_of-is (run r ∷ mark CloseBracket ∷ ls) f e = absurd cc
fact_of-is (run r ∷ mark Comma ∷ ls) f e = absurd cc
fact_of-is (run r ∷ mark Ampersand ∷ ls) f e = absurd cc
fact_of-is (run r ∷ mark Dot ∷ ls) f e = absurd cc
fact_of-is (run r ∷ mark Arrow ∷ ls) f e = absurd cc
fact_of-is (run r ∷ mark OpenBracket ∷ ls) f e =
    let m = map-some (written r) (arguments_of ls) f e in
    let a = arguments_of-is ls m.0 m.1 in
    subst (λ (g : WrittenFact). (map lexeme_of (fact_tokens g) ≡ run r ∷ mark OpenBracket ∷ ls) × IsFilled g.arguments) m.2 (ap (λ xs. run r ∷ mark OpenBracket ∷ xs) a.0, a.1)

-- constants are the names of columns
columns-same : (all : List Argument) → list_any is_labelled all ≡ false → map name (map argument_name all) ≡ map argument_token all
columns-same [] n = refl
columns-same (constant w ∷ all) n = ap (λ ts. name w ∷ ts) (columns-same all n)
columns-same (labelled w ∷ all) n = absurd (false≢true (sym n))

filled-map : {X Y : Type 0} (f : X → Y) (xs : List X) → IsFilled xs → IsFilled (map f xs)
filled-map f [] h = h
filled-map f (x ∷ xs) h = tt

-- what a line with this word and these lexemes behind it says
abbrev IsRead : List ℕ → List Lexeme → Said → Type 0
IsRead w ls s = (lexemes_of s ≡ run w ∷ ls) × IsWhole s

read-alone : (w : List ℕ) (ls : List Lexeme) (s r : Said) → IsRead w [] s → alone s ls ≡ Some r → IsRead w ls r
read-alone w ls s r is e = let a = alone-is s ls r e in subst (λ x. IsRead w ls x) a.1 (subst (λ xs. IsRead w xs s) (sym a.0) is)

read-one : {X : Type 0} (w : List ℕ) (read : List ℕ → Option X) (f : X → Said) → ((v : List ℕ) (x : X) → read v ≡ Some x → IsRead w (run v ∷ []) (f x)) →
    (ls : List Lexeme) (s : Said) → option_map f (option_and_then read (one_word ls)) ≡ Some s → IsRead w ls s
read-one w read f each ls s e =
    let x = map-some f (option_and_then read (one_word ls)) s e in
    let v = then-some read (one_word ls) x.0 x.1 in
    subst (λ y. IsRead w ls y) x.2 (subst (λ xs. IsRead w xs (f x.0)) (sym (one_word-is ls v.0 v.1)) (each v.0 x.0 v.2))

read-name : (w : List ℕ) (f : List ℕ → Said) → ((v : List ℕ) → IsRead w (run v ∷ []) (f v)) → (ls : List Lexeme) (s : Said) → option_map f (one_word ls) ≡ Some s → IsRead w ls s
read-name w f each ls s e =
    let v = map-some f (one_word ls) s e in
    subst (λ y. IsRead w ls y) v.2 (subst (λ xs. IsRead w xs (f v.0)) (sym (one_word-is ls v.0 v.1)) (each v.0))

read-two : (w : List ℕ) (f : List ℕ → List ℕ → Said) → ((u v : List ℕ) → IsRead w (run u ∷ run v ∷ []) (f u v)) →
    (ls : List Lexeme) (s : Said) → option_map (λ p. f p.0 p.1) (two_words ls) ≡ Some s → IsRead w ls s
read-two w f each ls s e =
    let p = map-some (λ (p : List ℕ × List ℕ). f p.0 p.1) (two_words ls) s e in
    subst (λ y. IsRead w ls y) p.2 (subst (λ xs. IsRead w xs (f p.0.0 p.0.1)) (sym (two_words-is ls p.0 p.1)) (each p.0.0 p.0.1))

read-declaration : (side : Side) (ls : List Lexeme) (s : Said) → declaration_of side ls ≡ Some s → IsRead (side_word side) ls s
read-declaration side ls s e =
    let f = then-some (declared_as side) (fact_of ls) s e in
    let is = fact_of-is ls f.0 f.1 in
    elim (cond-cases (list_any is_labelled f.0.arguments) None (Some (declare side f.0.relation (map argument_name f.0.arguments))) (Some s) f.2) [
      | inl k ↦ absurd (let n : None ≡ Some s = k.1 in cc)
      | inr k ↦ (
          let q : declare side f.0.relation (map argument_name f.0.arguments) ≡ s = (let n = k.1 in cc) in
          subst (λ x. IsRead (side_word side) ls x) q (
            ap (λ ts. run (side_word side) ∷ map lexeme_of (applied f.0.relation ts)) (columns-same f.0.arguments k.0) ∙ ap (λ xs. run (side_word side) ∷ xs) is.0,
            filled-map argument_name f.0.arguments is.1,
          )
          )
    ]

read-fact : (w : List ℕ) (f : List ℕ → WrittenFact → Said) → ((e : List ℕ) (g : WrittenFact) → IsFilled g.arguments → IsRead w (run e ∷ map lexeme_of (fact_tokens g)) (f e g)) →
    (ls : List Lexeme) (s : Said) → example_and_fact f ls ≡ Some s → IsRead w ls s
read-fact w f each [] s e = absurd cc
read-fact w f each (label v ∷ ls) s e = absurd cc
read-fact w f each (mark r ∷ ls) s e = absurd cc
read-fact w f each (run v ∷ ls) s e =
    let g = map-some (f v) (fact_of ls) s e in
    let is = fact_of-is ls g.0 g.1 in
    subst (λ y. IsRead w (run v ∷ ls) y) g.2 (subst (λ xs. IsRead w (run v ∷ xs) (f v g.0)) is.0 (each v g.0 is.1))

kind_of-is : (w : List ℕ) (k : Kind) → kind_of w ≡ Some k → kind_word k ≡ w
kind_of-is w k e = elim (cond-cases (bytes_eq w (codes "glav")) (Some Glav) (cond (bytes_eq w (codes "gav")) (Some Gav) None) (Some k) e) [
  | inl p ↦ (let q : Glav ≡ k = (let n = p.1 in cc) in ap kind_word (sym q) ∙ sym (same-bytes w (codes "glav") p.0))
  | inr p ↦ elim (cond-cases (bytes_eq w (codes "gav")) (Some Gav) None (Some k) p.1) [
    | inl p ↦ (let q : Gav ≡ k = (let n = p.1 in cc) in ap kind_word (sym q) ∙ sym (same-bytes w (codes "gav") p.0))
    | inr p ↦ absurd (let n : None ≡ Some k = p.1 in cc)
  ]
]

pub number_of-is : (w : List ℕ) (n : ℕ) → number_of w ≡ Some n → (n < 2 ^ 64) × (decimal n ≡ w)
number_of-is w n e =
    let v = digits_value 10 w in
    elim (cond-cases (nat_lt v (2 ^ 64) && bytes_eq (decimal v) w) (Some v) None (Some n) e) [
      | inl k ↦ (
          let q : v ≡ n = (let z = k.1 in cc) in
          let p = and_parts (nat_lt v (2 ^ 64)) (bytes_eq (decimal v) w) k.0 in
          subst (λ m. (m < 2 ^ 64) × (decimal m ≡ w)) q (ltb-true v (2 ^ 64) p.0, same-bytes (decimal v) w p.1)
          )
      | inr k ↦ absurd (let z : None ≡ Some n = k.1 in cc)
    ]

budget_of-is : (w : List ℕ) (n : ℕ) → budget_of w ≡ Some n → (decimal n ≡ w) × IsWhole (budget n)
budget_of-is w n e =
    let m = then-some (λ m. cond (nat_le 1 m && nat_le m 1000000000000) (Some m) None) (number_of w) n e in
    elim (cond-cases (nat_le 1 m.0 && nat_le m.0 1000000000000) (Some m.0) None (Some n) m.2) [
      | inl k ↦ (
          let q : m.0 ≡ n = (let z = k.1 in cc) in
          let p = and_parts (nat_le 1 m.0) (nat_le m.0 1000000000000) k.0 in
          subst (λ x. (decimal x ≡ w) × IsWhole (budget x)) q ((number_of-is w m.0 m.1).1, (leb-true 1 m.0 p.0, leb-true m.0 1000000000000 p.1))
          )
      | inr k ↦ absurd (let z : None ≡ Some n = k.1 in cc)
    ]

-- the word of a keyword
abbrev keyword_text : Keyword → List ℕ
keyword_text keyword.Source = codes "source"
keyword_text keyword.Target = codes "target"
keyword_text keyword.New = codes "new"
keyword_text keyword.Put = codes "put"
keyword_text keyword.Cut = codes "cut"
keyword_text keyword.Drop = codes "drop"
keyword_text keyword.Undo = codes "undo"
keyword_text keyword.Take = codes "take"
keyword_text keyword.Kind = codes "kind"
keyword_text keyword.Budget = codes "budget"
keyword_text keyword.Fit = codes "fit"
keyword_text keyword.Tries = codes "tries"
keyword_text keyword.Reduce = codes "reduce"
keyword_text keyword.Chase = codes "chase"
keyword_text keyword.Cert = codes "cert"
keyword_text keyword.Table = codes "table"
keyword_text keyword.Exchange = codes "exchange"

abbrev IsRow : List ℕ × Keyword → Type 0
IsRow row = keyword_text row.1 ≡ row.0

keyword_of-is : (w : List ℕ) (k : Keyword) → keyword_of w ≡ Some k → keyword_text k ≡ w
keyword_of-is w k e =
    let row = map-some (λ (row : List ℕ × Keyword). row.1) (find (λ row. bytes_eq w row.0) keywords) k e in
    let is = found keywords row.0 rows row.1 in
    ap keyword_text (sym row.2) ∙ is.0 ∙ sym is.1
  where
    rows : AllByRecursion IsRow keywords
    rows = (refl, (refl, (refl, (refl, (refl, (refl, (refl, (refl, (refl, (refl, (refl, (refl, (refl, (refl, (refl, (refl, (refl, tt)))))))))))))))))

    found : (rows : List (List ℕ × Keyword)) (row : List ℕ × Keyword) → AllByRecursion IsRow rows → find (λ row. bytes_eq w row.0) rows ≡ Some row → IsRow row × (w ≡ row.0)
    found [] row all e = absurd cc
    found (r ∷ rows) row all e = elim (cond-cases (bytes_eq w r.0) (Some r) (find (λ row. bytes_eq w row.0) rows) (Some row) e) [
      | inl p ↦ (let q : r ≡ row = (let n = p.1 in cc) in subst (λ x. IsRow x × (w ≡ x.0)) q (all.0, same-bytes w r.0 p.0))
      | inr p ↦ found rows row all.1 p.1
    ]

said_after-is : (k : Keyword) (ls : List Lexeme) (s : Said) → said_after k ls ≡ Some s → IsRead (keyword_text k) ls s
said_after-is keyword.Source ls s e = read-declaration Source ls s e
said_after-is keyword.Target ls s e = read-declaration Target ls s e
said_after-is keyword.New ls s e = read-name (codes "new") new (λ v. (refl, tt)) ls s e
said_after-is keyword.Put ls s e = read-fact (codes "put") put (λ v g f. (refl, f)) ls s e
said_after-is keyword.Cut ls s e = read-fact (codes "cut") cut (λ v g f. (refl, f)) ls s e
said_after-is keyword.Drop ls s e = read-name (codes "drop") drop (λ v. (refl, tt)) ls s e
said_after-is keyword.Undo ls s e = read-alone (codes "undo") ls undo s (refl, tt) e
said_after-is keyword.Take ls s e = read-two (codes "take") take (λ u v. (refl, tt)) ls s e
said_after-is keyword.Kind ls s e = read-one (codes "kind") kind_of kind (λ v k t. (ap (λ x. run (codes "kind") ∷ run x ∷ []) (kind_of-is v k t), tt)) ls s e
said_after-is keyword.Budget ls s e = read-one (codes "budget") budget_of budget (λ v n t. (let is = budget_of-is v n t in (ap (λ x. run (codes "budget") ∷ run x ∷ []) is.0, is.1))) ls s e
said_after-is keyword.Fit ls s e = read-alone (codes "fit") ls fit s (refl, tt) e
said_after-is keyword.Tries ls s e = read-alone (codes "tries") ls tries s (refl, tt) e
said_after-is keyword.Reduce ls s e = read-alone (codes "reduce") ls reduce s (refl, tt) e
said_after-is keyword.Chase ls s e = read-name (codes "chase") chase (λ v. (refl, tt)) ls s e
said_after-is keyword.Cert ls s e = read-name (codes "cert") cert (λ v. (refl, tt)) ls s e
said_after-is keyword.Table ls s e = read-two (codes "table") table (λ u v. (refl, tt)) ls s e
said_after-is keyword.Exchange ls s e = read-alone (codes "exchange") ls exchange s (refl, tt) e

said_by-is : (ls : List Lexeme) (s : Said) → said_by ls ≡ Some s → (lexemes_of s ≡ ls) × IsWhole s
said_by-is [] s e = absurd cc
said_by-is (label w ∷ ls) s e = absurd cc
said_by-is (mark r ∷ ls) s e = absurd cc
said_by-is (run w ∷ ls) s e =
    let k = then-some (λ k. said_after k ls) (keyword_of w) s e in
    let r = said_after-is k.0 ls s k.2 in
    (r.0 ∙ ap (λ v. run v ∷ ls) (keyword_of-is w k.0 k.1), r.1)

-- ---- what has these lexemes is read

argument_of-back : (a : Argument) → argument_of (lexeme_of (argument_token a)) ≡ Some a
argument_of-back (constant w) = refl
argument_of-back (labelled w) = refl

arguments_of-back : (all : List Argument) → IsFilled all → arguments_of (list_lexemes all) ≡ Some all
arguments_of-back [] f = absurd f
arguments_of-back (a ∷ []) f = rw (argument_of-back a) refl
arguments_of-back (a ∷ b ∷ all) f = let rest = arguments_of-back (b ∷ all) tt in rw (argument_of-back a, rest) refl

fact_of-back : (f : WrittenFact) → IsFilled f.arguments → fact_of (map lexeme_of (fact_tokens f)) ≡ Some f
fact_of-back f h = rw (arguments_of-back f.arguments h) refl

-- columns as the arguments that they are
columns-back : (columns : List (List ℕ)) → (map name columns ≡ map argument_token (map constant columns)) × (list_any is_labelled (map constant columns) ≡ false) × (map argument_name (map constant columns) ≡ columns)
columns-back [] = (refl, refl, refl)
columns-back (w ∷ columns) = let r = columns-back columns in (ap (λ ts. name w ∷ ts) r.0, r.1, ap (λ ws. w ∷ ws) r.2)

declaration-back : (side : Side) (r : List ℕ) (columns : List (List ℕ)) → IsFilled columns → declaration_of side (map lexeme_of (applied r (map name columns))) ≡ Some (declare side r columns)
declaration-back side r columns f =
    let c = columns-back columns in
    let fact = fact_of-back (written r (map constant columns)) (filled-map constant columns f) in
    ap (λ ts. declaration_of side (map lexeme_of (applied r ts))) c.0 ∙ ap (option_and_then (declared_as side)) fact ∙ rw (c.1, c.2) refl

pub number_of-back : (n : ℕ) → n < 2 ^ 64 → number_of (decimal n) ≡ Some n
number_of-back n small = let d = (decimal_is_IsNumeral n small).1 in rw (d, lt-ltb n (2 ^ 64) small, (bytes_eq-Decides (decimal n) (decimal n)).1 refl) refl

budget_of-back : (n : ℕ) → 1 ≤ n → n ≤ 1000000000000 → budget_of (decimal n) ≡ Some n
budget_of-back n low high = rw (number_of-back n (omega arith), le-leb 1 n low, le-leb n 1000000000000 high) refl

said_by-back : (s : Said) → IsWhole s → said_by (lexemes_of s) ≡ Some s
said_by-back (declare Source r columns) w = declaration-back Source r columns w
said_by-back (declare Target r columns) w = declaration-back Target r columns w
said_by-back (new e) w = refl
said_by-back (put e f) w = rw (fact_of-back f w) refl
said_by-back (cut e f) w = rw (fact_of-back f w) refl
said_by-back (drop e) w = refl
said_by-back undo w = refl
said_by-back (take d e) w = refl
said_by-back (kind Glav) w = refl
said_by-back (kind Gav) w = refl
said_by-back (budget n) w = rw (budget_of-back n w.0 w.1) refl
said_by-back fit w = refl
said_by-back tries w = refl
said_by-back reduce w = refl
said_by-back (chase e) w = refl
said_by-back (cert file) w = refl
said_by-back (table r file) w = refl
said_by-back exchange w = refl

-- ---- blank lines

-- gaps, and behind them nothing or a comment
abbrev IsBlankAny : List ℕ → Type 0
IsBlankAny line = (gap : List ℕ) × (rest : List ℕ) × AreGaps gap × (line ≡ gap ++ rest) × ((rest ≡ []) ⊎ ((more : List ℕ) × (rest ≡ codes "#" ++ more)))

is_blank-is : (line : List ℕ) → is_blank line ≡ true → IsBlankAny line
is_blank-is [] e = ([], [], tt, refl, inl refl)
is_blank-is (b ∷ line) e = elim (or_cases (b == 35) (is_gap b && is_blank line) e) [
  | inl k ↦ ([], b ∷ line, tt, refl, inr (line, ap (λ x. x ∷ line) (eqb-true b 35 k)))
  | inr k ↦ (
      let p = and_parts (is_gap b) (is_blank line) k in
      let r = is_blank-is line p.1 in
      (b ∷ r.0, r.1, (p.0, r.2), ap (λ xs. b ∷ xs) r.3, r.4)
      )
]

is_blank-back : (line : List ℕ) → IsBlankAny line → is_blank line ≡ true
is_blank-back line s = ap is_blank s.3 ∙ behind s.0 s.1 s.2 s.4
  where
    behind : (gap rest : List ℕ) → AreGaps gap → (rest ≡ []) ⊎ ((more : List ℕ) × (rest ≡ codes "#" ++ more)) → is_blank (gap ++ rest) ≡ true
    behind [] rest g (inl e) = ap is_blank e
    behind [] rest g (inr m) = ap is_blank m.1
    behind (b ∷ gap) rest g c =
        let k : is_gap b ≡ true = g.0 in
        let more : is_blank (gap ++ rest) ≡ true = behind gap rest g.1 c in
        elim (cases_Bool (b == 35)) [ inl t ↦ rw t refl | inr t ↦ rw (t, k, more) refl ]

-- a blank line says nothing
blank-unsaid : (line : List ℕ) (s : Said) → is_blank line ≡ true → read_by said_by line ≡ Some s → ⊥
blank-unsaid line s b e =
    let r = is_blank-is line b in
    let k : read_by said_by r.1 ≡ Some s = sym (ap (option_and_then said_by) (ap lexemes r.3 ∙ lexemes-gaps r.0 r.1 r.2)) ∙ e in
    none r.1 r.4 k
  where
    none : (rest : List ℕ) → (rest ≡ []) ⊎ ((more : List ℕ) × (rest ≡ codes "#" ++ more)) → read_by said_by rest ≡ Some s → ⊥
    none rest (inl n) k = let z : None ≡ Some s = sym (ap (read_by said_by) n) ∙ k in cc
    none rest (inr m) k = let z : None ≡ Some s = sym (ap (read_by said_by) m.1) ∙ k in cc

-- ---- lines

says_or_bad-says : (o : Option Said) (s : Said) → says_or_bad o ≡ says s → o ≡ Some s
says_or_bad-says None s e = absurd cc
says_or_bad-says (Some r) s e = let k : r ≡ s = cc in ap Some k

-- a line of any length is read as s exactly where it spells s
pub any-spelled : (line : List ℕ) (s : Said) → reading_of_any line ≡ says s → IsSpelled s line
any-spelled line s e = elim (cond-cases (is_blank line) blank (says_or_bad (read_by said_by line)) (says s) e) [
  | inl k ↦ absurd (let z : blank ≡ says s = k.1 in cc)
  | inr k ↦ (
      let ls = then-some said_by (lexemes line) s (says_or_bad-says (read_by said_by line) s k.1) in
      let is = said_by-is ls.0 s ls.2 in
      record { whole = is.1; spelled = Spells-lexemes (tokens_of s) line (ls.1 ∙ ap Some (sym is.0)) }
      )
]

pub spelled-any : (line : List ℕ) (s : Said) → IsSpelled s line → reading_of_any line ≡ says s
spelled-any line s is =
    let e : read_by said_by line ≡ Some s = ap (option_and_then said_by) (lexemes-spelled (tokens_of s) line is.spelled) ∙ said_by-back s is.whole in
    elim (cases_Bool (is_blank line)) [
      | inl b ↦ absurd (blank-unsaid line s b e)
      | inr b ↦ rw (b, e) refl
    ]

-- what is read of a line is what it says
pub reading-says : (line : List ℕ) (s : Said) → reading line ≡ says s → Says line s
reading-says line s e = elim (cond-cases (nat_le (length line) 4096) (reading_of_any line) bad (says s) e) [
  | inl k ↦ record { short = leb-true (length line) 4096 k.0; spelled = any-spelled line s k.1 }
  | inr k ↦ absurd (let z : bad ≡ says s = k.1 in cc)
]

-- what a line says is read of it
pub says-reading : (line : List ℕ) (s : Said) → Says line s → reading line ≡ says s
says-reading line s is = rw (le-leb (length line) 4096 is.short) (spelled-any line s is.spelled)

-- so a line says at most one thing
pub Says-one : (line : List ℕ) (r s : Said) → Says line r → Says line s → r ≡ s
Says-one line r s p q = let e : says r ≡ says s = sym (says-reading line r p) ∙ says-reading line s q in cc

pub reading-blank : (line : List ℕ) → reading line ≡ blank → IsBlank line
reading-blank line e = elim (cond-cases (nat_le (length line) 4096) (reading_of_any line) bad blank e) [
  | inl k ↦ elim (cond-cases (is_blank line) blank (says_or_bad (read_by said_by line)) blank k.1) [
    | inl b ↦ (
        let r = is_blank-is line b.0 in
        record { short = leb-true (length line) 4096 k.0; gap = r.0; rest = r.1; gaps = r.2; split = r.3; comment = r.4 }
        )
    | inr b ↦ absurd (no_blank (read_by said_by line) b.1)
  ]
  | inr k ↦ absurd (let z : bad ≡ blank = k.1 in cc)
]
  where
    no_blank : (o : Option Said) → says_or_bad o ≡ blank → ⊥
    no_blank None e = cc
    no_blank (Some s) e = cc

pub blank-reading : (line : List ℕ) → IsBlank line → reading line ≡ blank
blank-reading line is = rw (le-leb (length line) 4096 is.short, is_blank-back line (is.gap, is.rest, is.gaps, is.split, is.comment)) refl
