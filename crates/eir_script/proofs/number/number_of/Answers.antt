use Rattle.std.proofs.Common.{◌≡◌, None, sym, ◌∙◌, rules}
use Rattle.std.proofs.lemmas.Slice.Eq.{slice_eq-Decides}
use Rattle.std.proofs.lemmas.Bool.{false≢true}
use Rattle.std.proofs.lemmas.Bool.Decides.{Decides-eqb}
use Rattle.eir_script.proofs.NumberLaws.{no_text, no_number, own_spelling, other_spelling}
use Rattle.eir_script.proofs.number.number_of.Goals as goal

pub returns-in_err-text : goal.returns-in_err-text
returns-in_err-text c =
    let none : c.from_residual.result ≡ None = search rules in
    none ∙ sym (no_text _ c.args.word.now c.from_utf8.result c.from_utf8.ensures.cases (sym c.ok.ensures.value ∙ c.in_err-text.was))

pub returns-in_err-number : goal.returns-in_err-number
returns-in_err-number c =
    let none : c.from_residual-in_err-number.result ≡ None = search rules in
    let text : c.in_ok-text.text.now ≡ c.args.word.now = search rules in
    none ∙ sym (no_number c.args.word.now c.parse.result (rw (← text) c.parse.ensures.value.0) (sym c.ok-2.ensures.value ∙ c.in_err-number.was))

pub returns-then-eq : goal.returns-then-eq
returns-then-eq c =
    let text : c.in_ok-text.text.now ≡ c.args.word.now = search rules in
    sym (
    own_spelling c.args.word.now c.parse.result c.in_ok-number.number (rw (← text) c.parse.ensures.value.0) (sym c.ok-2.ensures.value ∙ c.in_ok-number.was)
    (sym c.format.ensures.text ∙ sym c.as_bytes.ensures.value ∙ (slice_eq-Decides Decides-eqb _ _ _ c.eq.ensures).0 c.if-eq.true)
    )

pub returns-else-eq : goal.returns-else-eq
returns-else-eq c =
    let text : c.in_ok-text.text.now ≡ c.args.word.now = search rules in
    sym (
    other_spelling c.args.word.now c.parse.result c.in_ok-number.number (rw (← text) c.parse.ensures.value.0) (sym c.ok-2.ensures.value ∙ c.in_ok-number.was)
    (λ e. false≢true (sym c.if-eq.false ∙ (slice_eq-Decides Decides-eqb _ _ _ c.eq.ensures).1 (c.as_bytes.ensures.value ∙ c.format.ensures.text ∙ e)))
    )
