-- One turn after another: what is true of the trial before the first and after the last, and of the fuel.
use Rattle.std.proofs.Common.{◌≡◌, ℕ, ◌+◌, ◌≤◌, Some, refl, sym, ap₂, ◌∙◌, arith}
use Rattle.eir_search.specs.Standings.{Allowance}
use Rattle.eir_term.specs.Verdicts.{first_refuting}
use Rattle.eir_ext.specs.declared.turn.Turn.{Turn}
use Rattle.eir_ext.specs.declared.turn.Turn.TheVariants.{Going, Extends, Fails, Spent}
use Rattle.eir_ext.specs.Trials.{Trial}
use Rattle.eir_ext.specs.Searching.{EndsAs, GoOn}

-- nothing was done yet
pub GoOn-none : (t : Trial) (f : Allowance) → GoOn t t f f
GoOn-none t f = record { first = refl; second = refl; tries = omega arith; source_tries = omega arith }

-- one after the other
pub GoOn-more : (t u v : Trial) (f g h : Allowance) → f.used ≤ g.used → g.used ≤ h.used → GoOn t u f g → GoOn u v g h → GoOn t v f h
GoOn-more t u v f g h l m a b = record { first = b.first ∙ a.first; second = b.second ∙ a.second; tries = omega arith; source_tries = omega arith }

-- the last turn ends as all together do
pub EndsAs-more : (turn : Turn) (t u v : Trial) (n m : ℕ) (f g h : Allowance) → GoOn t u f g → g.used + m ≡ f.used + n → EndsAs (Some turn) u v m g h → EndsAs (Some turn) t v n f h
EndsAs-more Going t u v n m f g h a e b = (b.0 ∙ e, b.1, b.2)
EndsAs-more Extends t u v n m f g h a e b = (ap₂ first_refuting (sym a.first) (sym a.second) ∙ b.0, b.1, b.2)
EndsAs-more Fails t u v n m f g h a e b = (b.0, b.1 ∙ ap₂ first_refuting a.first a.second, b.2)
EndsAs-more Spent t u v n m f g h a e b = b
