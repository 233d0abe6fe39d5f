-- The lexemes of the bytes are those that are spelled: a list of tokens spells the bytes exactly where the bytes have
-- the lexemes of these tokens (`lexemes-spelled` and `Spells-lexemes`, at the end of the two parts).
use Rattle.std.proofs.Common.{◌≡◌, ◌⊎◌, inl, inr, ℕ, ◌≤◌, ◌<◌, Bool, true, false, cond, not, ◌==◌, List, [], ◌∷◌, ◌++◌, map, length, Option, Some, None, refl, sym, ◌∙◌, ap, subst, arith}
use Rattle.std.specs.Prelude.{nat_le, option_map, option_and_then, codes}
use Rattle.std.proofs.lemmas.Bool.{cases_Bool, or_cases, false≢true, and_parts, le-leb, leb-true, eqb-true}
use Rattle.std.proofs.lemmas.List.{append_assoc, append-nil}
use Rattle.eir_script.specs.declared.token.Sign.{Sign}
use Rattle.eir_script.specs.declared.token.Sign.TheVariants.{OpenBracket, CloseBracket, Comma, Ampersand, Dot, Arrow}
use Rattle.eir_script.specs.Grammar.{Token, word, name, labelled_null, sign, is_gap, is_word_byte, is_word_start, AreWordBytes, IsRun, IsToken, EndsBefore, StartsApart, AreGaps, Spells, token_bytes, sign_bytes}
use Rattle.eir_script.specs.Reading.{Lexeme, run, label, mark, Begun, nothing, in_run, asked, in_label, dashed, and_lexeme, run_ended, sign_at, first_byte, lexemes_from, lexemes}

-- the lexeme of a token: a word and a name are spelled alike
abbrev pub lexeme_of : Token → Lexeme
lexeme_of (word w) = run w
lexeme_of (name w) = run w
lexeme_of (labelled_null w) = label w
lexeme_of (sign s) = mark s

-- ---- bytes

-- a gap is no byte of a word
pub gap-apart : (b : ℕ) → is_gap b ≡ true → is_word_byte b ≡ false
gap-apart b t = elim (or_cases (b == 32) (b == 9) t) [
  | inl e ↦ subst (λ n. is_word_byte n ≡ false) (sym (eqb-true b 32 e)) refl
  | inr e ↦ subst (λ n. is_word_byte n ≡ false) (sym (eqb-true b 9 e)) refl
]

pub start-byte : (b : ℕ) → is_word_start b ≡ true → is_word_byte b ≡ true
start-byte b t = (and_parts (is_word_byte b) (not (b == 46)) t).0

pub start-no_gap : (b : ℕ) → is_word_start b ≡ true → is_gap b ≡ false
start-no_gap b t = elim (cases_Bool (is_gap b)) [ inl g ↦ absurd (false≢true (sym (gap-apart b g) ∙ start-byte b t)) | inr g ↦ g ]

-- ---- what is spelled has these lexemes

-- gaps are passed over
pub lexemes-gaps : (gap rest : List ℕ) → AreGaps gap → lexemes (gap ++ rest) ≡ lexemes rest
lexemes-gaps [] rest g = refl
lexemes-gaps (b ∷ gap) rest g = let k : is_gap b ≡ true = g.0 in rw k (lexemes-gaps gap rest g.1)

-- bytes of words go on with a run, and with the name of a null
pub lexemes-in_run : (us w rest : List ℕ) → AreWordBytes us → lexemes_from (us ++ rest) (in_run w) ≡ lexemes_from rest (in_run (w ++ us))
lexemes-in_run [] w rest all = rw (append-nil w) refl
lexemes-in_run (b ∷ us) w rest all =
    let k : is_word_byte b ≡ true = all.0 in
    rw k (lexemes-in_run us (w ++ b ∷ []) rest all.1 ∙ ap (λ v. lexemes_from rest (in_run v)) (append_assoc w (b ∷ []) us))

pub lexemes-in_label : (us w rest : List ℕ) → AreWordBytes us → lexemes_from (us ++ rest) (in_label w) ≡ lexemes_from rest (in_label (w ++ us))
lexemes-in_label [] w rest all = rw (append-nil w) refl
lexemes-in_label (b ∷ us) w rest all =
    let k : is_word_byte b ≡ true = all.0 in
    rw k (lexemes-in_label us (w ++ b ∷ []) rest all.1 ∙ ap (λ v. lexemes_from rest (in_label v)) (append_assoc w (b ∷ []) us))

-- other bytes end them
pub run-ended : (w rest : List ℕ) → StartsApart rest → lexemes_from rest (in_run w) ≡ run_ended w (run w) (lexemes rest)
run-ended w [] apart = refl
run-ended w (b ∷ rest) apart = let k : is_word_byte b ≡ false = apart in rw k refl

pub label-ended : (w rest : List ℕ) → StartsApart rest → lexemes_from rest (in_label w) ≡ run_ended w (label w) (lexemes rest)
label-ended w [] apart = refl
label-ended w (b ∷ rest) apart = let k : is_word_byte b ≡ false = apart in rw k refl

-- a run, and a null with its name
pub lexemes-run : (w rest : List ℕ) → IsRun w → StartsApart rest → lexemes (w ++ rest) ≡ run_ended w (run w) (lexemes rest)
lexemes-run [] rest is apart = absurd is
lexemes-run (b ∷ us) rest is apart =
    let k : is_word_start b ≡ true = is.0 in
    rw (start-no_gap b k, k) (lexemes-in_run us (b ∷ []) rest is.1 ∙ run-ended (b ∷ us) rest apart)

pub lexemes-label : (w rest : List ℕ) → IsRun w → StartsApart rest → lexemes (63 ∷ (w ++ rest)) ≡ run_ended w (label w) (lexemes rest)
lexemes-label [] rest is apart = absurd is
lexemes-label (b ∷ us) rest is apart =
    let k : is_word_start b ≡ true = is.0 in
    rw k (lexemes-in_label us (b ∷ []) rest is.1 ∙ label-ended (b ∷ us) rest apart)

-- a run that is short enough is one lexeme, a longer one is none
pub run_ended-short : (w : List ℕ) (t : Lexeme) (more : Option (List Lexeme)) → length w ≤ 64 → run_ended w t more ≡ and_lexeme t more
run_ended-short w t more short = rw (le-leb (length w) 64 short) refl

pub run_ended-long : (w : List ℕ) (t : Lexeme) (more : Option (List Lexeme)) → 64 < length w → run_ended w t more ≡ None
run_ended-long w t more long = elim (cases_Bool (nat_le (length w) 64)) [
  | inl k ↦ absurd (let short : length w ≤ 64 = leb-true (length w) 64 k in omega arith)
  | inr k ↦ rw k refl
]

lexemes-token : (t : Token) (rest : List ℕ) → IsToken t → EndsBefore t rest → lexemes (token_bytes t ++ rest) ≡ and_lexeme (lexeme_of t) (lexemes rest)
lexemes-token (word w) rest is ends = lexemes-run w rest is.0 ends ∙ run_ended-short w (run w) (lexemes rest) is.1
lexemes-token (name w) rest is ends = lexemes-run w rest is.0 ends ∙ run_ended-short w (run w) (lexemes rest) is.1
lexemes-token (labelled_null w) rest is ends = lexemes-label w rest is.0 ends ∙ run_ended-short w (label w) (lexemes rest) is.1
lexemes-token (sign OpenBracket) rest is ends = refl
lexemes-token (sign CloseBracket) rest is ends = refl
lexemes-token (sign Comma) rest is ends = refl
lexemes-token (sign Ampersand) rest is ends = refl
lexemes-token (sign Dot) rest is ends = refl
lexemes-token (sign Arrow) rest is ends = refl

pub lexemes-spelled : (ts : List Token) (bytes : List ℕ) → Spells ts bytes → lexemes bytes ≡ Some (map lexeme_of ts)
lexemes-spelled [] bytes g = ap lexemes (sym (append-nil bytes)) ∙ lexemes-gaps bytes [] g
lexemes-spelled (t ∷ ts) bytes s =
    ap lexemes s.3 ∙ lexemes-gaps s.0 (token_bytes t ++ s.1) s.2 ∙ lexemes-token t s.1 s.4 s.5 ∙ ap (and_lexeme (lexeme_of t)) (lexemes-spelled ts s.1 s.6)

-- ---- what has these lexemes is spelled so

-- what a choice and a map give
pub cond-cases : {X : Type 0} (b : Bool) (x y z : X) → cond b x y ≡ z → ((b ≡ true) × (x ≡ z)) ⊎ ((b ≡ false) × (y ≡ z))
cond-cases true x y z e = inl (refl, e)
cond-cases false x y z e = inr (refl, e)

pub map-some : {X Y : Type 0} (f : X → Y) (o : Option X) (y : Y) → option_map f o ≡ Some y → (x : X) × (o ≡ Some x) × (f x ≡ y)
map-some f None y e = absurd cc
map-some f (Some x) y e = (x, refl, cc)

pub then-some : {X Y : Type 0} (f : X → Option Y) (o : Option X) (y : Y) → option_and_then f o ≡ Some y → (x : X) × (o ≡ Some x) × (f x ≡ Some y)
then-some f None y e = absurd cc
then-some f (Some x) y e = (x, refl, e)

-- the bytes of what is begun
abbrev begun_bytes : Begun → List ℕ
begun_bytes nothing = []
begun_bytes (in_run w) = w
begun_bytes asked = codes "?"
begun_bytes (in_label w) = codes "?" ++ w
begun_bytes dashed = codes "-"

-- what is begun as a run is one
abbrev IsBegun : Begun → Type 0
IsBegun (in_run w) = IsRun w
IsBegun (in_label w) = IsRun w
IsBegun o = Unit {0}

IsRun-push : (w : List ℕ) (b : ℕ) → IsRun w → is_word_byte b ≡ true → IsRun (w ++ b ∷ [])
IsRun-push [] b r t = absurd r
IsRun-push (c ∷ cs) b r t = (r.0, all cs r.1)
  where
    all : (xs : List ℕ) → AreWordBytes xs → AreWordBytes (xs ++ b ∷ [])
    all [] a = (t, tt)
    all (x ∷ xs) a = (a.0, all xs a.1)

-- the bytes have lexemes that some tokens have which spell them, whatever tokens have these lexemes
abbrev AreSpelled : List Lexeme → List ℕ → Type 0
AreSpelled ls bytes = (ts : List Token) → map lexeme_of ts ≡ ls → Spells ts bytes

spelled-gap : (ls : List Lexeme) (b : ℕ) (bytes : List ℕ) → is_gap b ≡ true → AreSpelled ls bytes → AreSpelled ls (b ∷ bytes)
spelled-gap ls b bytes g s ts e = more ts (s ts e)
  where
    more : (ts : List Token) → Spells ts bytes → Spells ts (b ∷ bytes)
    more [] s = (g, s)
    more (t ∷ ts) s = (b ∷ s.0, s.1, (g, s.2), ap (λ xs. b ∷ xs) s.3, s.4, s.5, s.6)

-- no lexeme
spelled-none : AreSpelled [] []
spelled-none [] e = tt
spelled-none (t ∷ ts) e = absurd cc

-- a run, the name of a null, or a sign, and behind it what is spelled
spelled-run : (w : List ℕ) (ls : List Lexeme) (rest : List ℕ) → IsRun w → length w ≤ 64 → StartsApart rest → AreSpelled ls rest → AreSpelled (run w ∷ ls) (w ++ rest)
spelled-run w ls rest is short apart s [] e = absurd cc
spelled-run w ls rest is short apart s (word v ∷ ts) e =
    let k : v ≡ w = cc in let l : map lexeme_of ts ≡ ls = cc in
    subst (λ x. Spells (word x ∷ ts) (w ++ rest)) (sym k) ([], rest, tt, refl, (is, short), apart, s ts l)
spelled-run w ls rest is short apart s (name v ∷ ts) e =
    let k : v ≡ w = cc in let l : map lexeme_of ts ≡ ls = cc in
    subst (λ x. Spells (name x ∷ ts) (w ++ rest)) (sym k) ([], rest, tt, refl, (is, short), apart, s ts l)
spelled-run w ls rest is short apart s (labelled_null v ∷ ts) e = absurd cc
spelled-run w ls rest is short apart s (sign r ∷ ts) e = absurd cc

spelled-label : (w : List ℕ) (ls : List Lexeme) (rest : List ℕ) → IsRun w → length w ≤ 64 → StartsApart rest → AreSpelled ls rest → AreSpelled (label w ∷ ls) (63 ∷ (w ++ rest))
spelled-label w ls rest is short apart s [] e = absurd cc
spelled-label w ls rest is short apart s (word v ∷ ts) e = absurd cc
spelled-label w ls rest is short apart s (name v ∷ ts) e = absurd cc
spelled-label w ls rest is short apart s (labelled_null v ∷ ts) e =
    let k : v ≡ w = cc in let l : map lexeme_of ts ≡ ls = cc in
    subst (λ x. Spells (labelled_null x ∷ ts) (63 ∷ (w ++ rest))) (sym k) ([], rest, tt, refl, (is, short), apart, s ts l)
spelled-label w ls rest is short apart s (sign r ∷ ts) e = absurd cc

spelled-sign : (r : Sign) (ls : List Lexeme) (rest : List ℕ) → AreSpelled ls rest → AreSpelled (mark r ∷ ls) (sign_bytes r ++ rest)
spelled-sign r ls rest s [] e = absurd cc
spelled-sign r ls rest s (word v ∷ ts) e = absurd cc
spelled-sign r ls rest s (name v ∷ ts) e = absurd cc
spelled-sign r ls rest s (labelled_null v ∷ ts) e = absurd cc
spelled-sign r ls rest s (sign q ∷ ts) e =
    let k : q ≡ r = cc in let l : map lexeme_of ts ≡ ls = cc in
    subst (λ x. Spells (sign x ∷ ts) (sign_bytes r ++ rest)) (sym k) ([], rest, tt, refl, tt, tt, s ts l)

run_ended-some : (w : List ℕ) (t : Lexeme) (more : Option (List Lexeme)) (ls : List Lexeme) → run_ended w t more ≡ Some ls → (us : List Lexeme) × (more ≡ Some us) × (t ∷ us ≡ ls) × (length w ≤ 64)
run_ended-some w t more ls e = elim (cond-cases (nat_le (length w) 64) (and_lexeme t more) None (Some ls) e) [
  | inl k ↦ (let r = map-some (λ us. t ∷ us) more ls k.1 in (r.0, r.1, r.2, leb-true (length w) 64 k.0))
  | inr k ↦ absurd (let n : None ≡ Some ls = k.1 in cc)
]

sign_at-bytes : (b : ℕ) (s : Sign) → sign_at b ≡ Some s → sign_bytes s ≡ b ∷ []
sign_at-bytes b s e = elim (cond-cases (b == 40) _ _ _ e) [
  | inl k ↦ is OpenBracket 40 k.0 k.1 refl
  | inr k ↦ elim (cond-cases (b == 41) _ _ _ k.1) [
    | inl k ↦ is CloseBracket 41 k.0 k.1 refl
    | inr k ↦ elim (cond-cases (b == 44) _ _ _ k.1) [
      | inl k ↦ is Comma 44 k.0 k.1 refl
      | inr k ↦ elim (cond-cases (b == 38) _ _ _ k.1) [
        | inl k ↦ is Ampersand 38 k.0 k.1 refl
        | inr k ↦ elim (cond-cases (b == 46) _ _ _ k.1) [
          | inl k ↦ is Dot 46 k.0 k.1 refl
          | inr k ↦ absurd (let n : None ≡ Some s = k.1 in cc)
        ]
      ]
    ]
  ]
]
  where
    is : (r : Sign) (n : ℕ) → (b == n) ≡ true → Some r ≡ Some s → sign_bytes r ≡ n ∷ [] → sign_bytes s ≡ b ∷ []
    is r n t k spelled = let q : r ≡ s = cc in subst (λ x. sign_bytes x ≡ b ∷ []) q (spelled ∙ ap (λ m. m ∷ []) (sym (eqb-true b n t)))

-- what the bytes behind are read to is spelled
abbrev IsSound : List ℕ → Type 0
IsSound bytes = (o : Begun) (ls : List Lexeme) → IsBegun o → lexemes_from bytes o ≡ Some ls → AreSpelled ls (begun_bytes o ++ bytes)

first_byte-sound : (b : ℕ) (bytes : List ℕ) (ls : List Lexeme) → IsSound bytes → first_byte b (lexemes_from bytes) ≡ Some ls → AreSpelled ls (b ∷ bytes)
first_byte-sound b bytes ls sound e = elim (cond-cases (is_gap b) _ _ _ e) [
  | inl k ↦ spelled-gap ls b bytes k.0 (sound nothing ls tt k.1)
  | inr k ↦ elim (cond-cases (is_word_start b) _ _ _ k.1) [
    | inl k ↦ sound (in_run (b ∷ [])) ls (k.0, tt) k.1
    | inr k ↦ elim (cond-cases (b == 63) _ _ _ k.1) [
      | inl k ↦ subst (λ n. AreSpelled ls (n ∷ bytes)) (sym (eqb-true b 63 k.0)) (sound asked ls tt k.1)
      | inr k ↦ elim (cond-cases (b == 45) _ _ _ k.1) [
        | inl k ↦ subst (λ n. AreSpelled ls (n ∷ bytes)) (sym (eqb-true b 45 k.0)) (sound dashed ls tt k.1)
        | inr k ↦ (
            let r = then-some (λ s. and_lexeme (mark s) (lexemes bytes)) (sign_at b) ls k.1 in
            let q = map-some (λ us. mark r.0 ∷ us) (lexemes bytes) ls r.2 in
            subst (λ us. AreSpelled us (b ∷ bytes)) q.2 (subst (λ xs. AreSpelled (mark r.0 ∷ q.0) (xs ++ bytes)) (sign_at-bytes b r.0 r.1) (spelled-sign r.0 q.0 bytes (sound nothing q.0 tt q.1)))
            )
      ]
    ]
  ]
]

lexemes_from-sound : (bytes : List ℕ) → IsSound bytes
lexemes_from-sound [] nothing ls is e = let k : [] ≡ ls = cc in subst (λ us. AreSpelled us []) k spelled-none
lexemes_from-sound [] (in_run w) ls is e =
    let r = run_ended-some w (run w) (Some []) ls e in let k : [] ≡ r.0 = (let q = r.1 in cc) in
    subst (λ us. AreSpelled us (w ++ [])) r.2 (subst (λ us. AreSpelled (run w ∷ us) (w ++ [])) k (spelled-run w [] [] is r.3 tt spelled-none))
lexemes_from-sound [] asked ls is e = absurd cc
lexemes_from-sound [] (in_label w) ls is e =
    let r = run_ended-some w (label w) (Some []) ls e in let k : [] ≡ r.0 = (let q = r.1 in cc) in
    subst (λ us. AreSpelled us (63 ∷ (w ++ []))) r.2 (subst (λ us. AreSpelled (label w ∷ us) (63 ∷ (w ++ []))) k (spelled-label w [] [] is r.3 tt spelled-none))
lexemes_from-sound [] dashed ls is e = absurd cc
lexemes_from-sound (b ∷ bytes) nothing ls is e = first_byte-sound b bytes ls (lexemes_from-sound bytes) e
lexemes_from-sound (b ∷ bytes) (in_run w) ls is e = elim (cond-cases (is_word_byte b) _ _ _ e) [
  | inl k ↦ subst (λ xs. AreSpelled ls xs) (append_assoc w (b ∷ []) bytes) (lexemes_from-sound bytes (in_run (w ++ b ∷ [])) ls (IsRun-push w b is k.0) k.1)
  | inr k ↦ (
      let r = run_ended-some w (run w) (first_byte b (lexemes_from bytes)) ls k.1 in
      subst (λ us. AreSpelled us (w ++ b ∷ bytes)) r.2 (spelled-run w r.0 (b ∷ bytes) is r.3 k.0 (first_byte-sound b bytes r.0 (lexemes_from-sound bytes) r.1))
      )
]
lexemes_from-sound (b ∷ bytes) asked ls is e = elim (cond-cases (is_word_start b) _ _ _ e) [
  | inl k ↦ lexemes_from-sound bytes (in_label (b ∷ [])) ls (k.0, tt) k.1
  | inr k ↦ absurd (let n : None ≡ Some ls = k.1 in cc)
]
lexemes_from-sound (b ∷ bytes) (in_label w) ls is e = elim (cond-cases (is_word_byte b) _ _ _ e) [
  | inl k ↦ subst (λ xs. AreSpelled ls (63 ∷ xs)) (append_assoc w (b ∷ []) bytes) (lexemes_from-sound bytes (in_label (w ++ b ∷ [])) ls (IsRun-push w b is k.0) k.1)
  | inr k ↦ (
      let r = run_ended-some w (label w) (first_byte b (lexemes_from bytes)) ls k.1 in
      subst (λ us. AreSpelled us (63 ∷ (w ++ b ∷ bytes))) r.2 (spelled-label w r.0 (b ∷ bytes) is r.3 k.0 (first_byte-sound b bytes r.0 (lexemes_from-sound bytes) r.1))
      )
]
lexemes_from-sound (b ∷ bytes) dashed ls is e = elim (cond-cases (b == 62) _ _ _ e) [
  | inl k ↦ (
      let q = map-some (λ us. mark Arrow ∷ us) (lexemes bytes) ls k.1 in
      subst (λ us. AreSpelled us (45 ∷ b ∷ bytes)) q.2 (subst (λ n. AreSpelled (mark Arrow ∷ q.0) (45 ∷ n ∷ bytes)) (sym (eqb-true b 62 k.0)) (spelled-sign Arrow q.0 bytes (lexemes_from-sound bytes nothing q.0 tt q.1)))
      )
  | inr k ↦ absurd (let n : None ≡ Some ls = k.1 in cc)
]

pub Spells-lexemes : (ts : List Token) (bytes : List ℕ) → lexemes bytes ≡ Some (map lexeme_of ts) → Spells ts bytes
Spells-lexemes ts bytes e = lexemes_from-sound bytes nothing (map lexeme_of ts) tt e ts refl
