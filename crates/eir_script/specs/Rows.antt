-- The definitions computed on worked lines.
use Rattle.std.specs.Prelude.{◌≡◌, [], ◌∷◌, ◌++◌, refl, codes}
use Rattle.std.specs.Fmt.{digits}
use Rattle.eir_term.specs.declared.val.Side.TheVariants.{Source}
use Rattle.eir_script.specs.Lines.{lines_of}
use Rattle.eir_script.specs.Grammar as said
use Rattle.eir_script.specs.Grammar.{constant, labelled}
use Rattle.eir_script.specs.Reading.{reading, bad, blank, says}

-- an end may be a carriage return and a line feed, and the last line needs none
two_ends : lines_of (codes "fit" ++ 13 ∷ 10 ∷ codes "fit") ≡ codes "fit" ∷ codes "fit" ∷ []
two_ends = refl

one_return_dropped : lines_of (codes "fit" ++ 13 ∷ 13 ∷ 10 ∷ 13 ∷ []) ≡ (codes "fit" ++ 13 ∷ []) ∷ [] ∷ []
one_return_dropped = refl

comment : reading (codes "  # put") ≡ blank
comment = refl

declaration : reading (codes "source Emp( name ,dept)") ≡ says (said.declare Source (codes "Emp") (codes "name" ∷ codes "dept" ∷ []))
declaration = refl

fact : reading (codes "put e1 Works(ann,?b)") ≡ says (said.put (codes "e1") (record { relation = codes "Works"; arguments = constant (codes "ann") ∷ labelled (codes "b") ∷ [] }))
fact = refl

-- a word goes on as long as its bytes follow
joined_words : reading (codes "put e1R(a)") ≡ bad
joined_words = refl

no_word_is_reserved : reading (codes "source fit(put)") ≡ says (said.declare Source (codes "fit") (codes "put" ∷ []))
no_word_is_reserved = refl

dot_at_the_end : reading (codes "new a.") ≡ says (said.new (codes "a."))
dot_at_the_end = refl

null_apart : reading (codes "put e R(? x)") ≡ bad
null_apart = refl

least_budget : reading (codes "budget 1") ≡ says (said.budget 1)
unfolding digits
least_budget = refl

leading_zero : reading (codes "budget 01") ≡ bad
unfolding digits
leading_zero = refl
