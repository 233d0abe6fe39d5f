use Rattle.std.proofs.Common.{◌≡◌, Some, refl, sym, subst, rules, arith}
use Rattle.std.specs.Prelude.{codes}
use Rattle.std.proofs.lemmas.Slice.Eq.{text_from_reads}
use Rattle.eir_script.specs.declared.keyword.Keyword.TheVariants.{Source, Target, Budget, Reduce, Exchange}
use Rattle.eir_script.specs.Reading.{keyword_of}
use Rattle.eir_script.proofs.keyword.keyword_of.Goals as goal

pub returns-in-source : goal.returns-in-source
returns-in-source c =
    let e : c.args.word.now ≡ codes "source" = text_from_reads c.args.word.now (codes "source") (omega arith) (search rules) in
    subst (λ w. Some Source ≡ keyword_of w) (sym e) refl

pub returns-in-target : goal.returns-in-target
returns-in-target c =
    let e : c.args.word.now ≡ codes "target" = text_from_reads c.args.word.now (codes "target") (omega arith) (search rules) in
    subst (λ w. Some Target ≡ keyword_of w) (sym e) refl

pub returns-in-budget : goal.returns-in-budget
returns-in-budget c =
    let e : c.args.word.now ≡ codes "budget" = text_from_reads c.args.word.now (codes "budget") (omega arith) (search rules) in
    subst (λ w. Some Budget ≡ keyword_of w) (sym e) refl

pub returns-in-reduce : goal.returns-in-reduce
returns-in-reduce c =
    let e : c.args.word.now ≡ codes "reduce" = text_from_reads c.args.word.now (codes "reduce") (omega arith) (search rules) in
    subst (λ w. Some Reduce ≡ keyword_of w) (sym e) refl

pub returns-in-exchange : goal.returns-in-exchange
returns-in-exchange c =
    let e : c.args.word.now ≡ codes "exchange" = text_from_reads c.args.word.now (codes "exchange") (omega arith) (search rules) in
    subst (λ w. Some Exchange ≡ keyword_of w) (sym e) refl
