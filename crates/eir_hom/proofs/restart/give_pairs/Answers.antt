use Rattle.std.proofs.Common.{◌≡◌, ◌+◌, ◌++◌, ℕ, [], map, true, suc, inl, inr, get_or, length, take, drop, sym, ap, ◌∙◌, subst, arith}
use Rattle.std.proofs.lemmas.Option.{slice_get-get_or}
use Rattle.eir_term.specs.declared.val.Val.{Val}
use Rattle.eir_term.specs.declared.val.Val.TheVariants.{Const}
use Rattle.eir_term.specs.Lists.{◌∈◌, IsDistinct}
use Rattle.eir_term.specs.Instances.{values}
use Rattle.eir_term.specs.Maps.{domain_of}
use Rattle.eir_term.proofs.ListLaws.{∈-filter_from}
use Rattle.eir_term.proofs.OrderLaws.{∈-slice_get_from}
use Rattle.eir_term.specs.Plans.{is_known}
use Rattle.eir_hom.specs.Matching.{Match, with_number}
use Rattle.eir_hom.specs.Columns.{is_among}
use Rattle.eir_hom.proofs.restart.give_pairs.Goals.{in-Some, in_default}
use Rattle.eir_hom.specs.Levels.{given_values}
use Rattle.eir_hom.specs.Listings.{AreEntries}
use Rattle.eir_hom.proofs.EntryLaws.{entries-end}
use Rattle.eir_hom.proofs.RestartLaws.{bindings_at, start-kept, start-absent, start-set, start-bound, start-end, named-given, entry-own, entry-kept, ∈-domain_at}
use Rattle.eir_hom.proofs.restart.give_pairs.Goals as goal

pub pairs-init : goal.pairs-init
pairs-init c =
    let m = c.args.matcher.now in (
      ap (λ x. let q : Match = record m { start = x } in q) c.requires.numbers,
      c.requires.entries,
      rw c.as_slice-pairs.ensures.pairs c.requires.few,
    )

pub renew_at-requires : goal.renew_at-requires
renew_at-requires c = record {
  own = λ g at.
      let pairs = c.as_slice-pairs.result.now in
      entry-own c.args.source.now.facts (take c.pairs.place pairs ++ drop c.pairs.place c.args.was.now.value) c.pairs.given c.pairs.place g c.pairs.invariant.1 at;
}

pub set_start-requires-clause-bound : goal.set_start-requires-clause-bound
set_start-requires-clause-bound c =
    let A = c.args.source.now.facts in
    let was = c.args.was.now.value in
    let pairs = c.as_slice-pairs.result.now in
    let p = get_or pairs c.pairs.place (Const 0, Const 0) in
    let at = slice_get-get_or pairs c.pairs.place (Const 0, Const 0) c.pairs-test.true in
    let slot = c.renew_at.ensures.some c.in-Some.slot c.in-Some.is in
    let there : p.0 ∈ values A = ∈-slice_get_from p.0 (values A) c.in-Some.slot slot in
    let named : p.0 ∈ domain_of c.args.start.now = subst (λ t. p.0 ∈ domain_of t) c.as_slice-pairs.ensures.pairs (∈-domain_at pairs c.pairs.place p at) in
    let given = named-given A c.args.start.now was c.requires.same p.0 there named in
    subst (λ m. is_among c.in-Some.slot (map (λ (q : ℕ × ℕ). q.0) m.start) ≡ true) (sym c.pairs.invariant.0)
    (start-bound A c.args.target.now.facts (given_values A was) (take c.pairs.place pairs ++ was) c.in-Some.slot p.0 slot given)

pub pairs-preserved : goal.pairs-preserved
pairs-preserved c =
    let A = c.args.source.now.facts in
    let B = c.args.target.now.facts in
    let was = c.args.was.now.value in
    let pairs = c.as_slice-pairs.result.now in
    let k = c.pairs.place in
    let p = get_or pairs k (Const 0, Const 0) in
    let at = slice_get-get_or pairs k (Const 0, Const 0) c.pairs-test.true in
    let next : suc k ≡ k + 1 = omega arith in
    let names : IsDistinct (domain_of pairs) = subst (λ t. IsDistinct (domain_of t)) (sym c.as_slice-pairs.ensures.pairs) c.as_slice-pairs.ensures.distinct in
    let from : (v : Val) → v ∈ given_values A was → v ∈ values A = λ v i. (∈-filter_from (is_known was []) v (values A) i).0 in
    let on = ap (λ n. bindings_at A B (given_values A was) (take n pairs ++ was)) next in (
      elim c.match-renew_at.branch [
        | in-Some w ↦ (
            let slot = c.renew_at.ensures.some w.in-Some.slot w.in-Some.is in
            w.matcher-is ∙ w.set_start.ensures
            ∙ ap (λ (m : Match). let q : Match = record m { start = with_number m.start w.in-Some.slot w.number_in.result } in q) c.pairs.invariant.0
            ∙ ap (λ x. let q : Match = record c.args.matcher.now { start = x } in q)
            (ap (with_number (bindings_at A B (given_values A was) (take k pairs ++ was)) w.in-Some.slot) w.number_in.ensures
            ∙ start-set A B (given_values A was) pairs was k w.in-Some.slot p from names at slot
            ∙ on))
        | in_default w ↦ (
            let none = w.in_default.is in
            w.matcher-is ∙ c.pairs.invariant.0
            ∙ ap (λ x. let q : Match = record c.args.matcher.now { start = x } in q)
            (elim (c.renew_at.ensures.none none) [
              | inl n ↦ start-absent A B (given_values A was) pairs was k p from at n
              | inr r ↦ start-kept A B (given_values A was) pairs was k p names at (entry-kept A pairs was c.pairs.given k p r.0 c.pairs.invariant.1 r.1 r.2 r.3 at c.requires.names)
            ]
            ∙ on))
      ],
      c.renew_at.ensures.entries pairs was at c.pairs.invariant.1,
      (let l = c.renew_at.ensures.len in let m = c.pairs.invariant.2 in omega arith),
    )

pub returns-clause-numbers : goal.returns-clause-numbers
returns-clause-numbers c =
    let A = c.args.source.now.facts in
    let B = c.args.target.now.facts in
    let was = c.args.was.now.value in
    let all = ap length c.as_slice-pairs.ensures.pairs in
    let over = c.pairs-test.false in
    c.pairs.invariant.0
    ∙ ap (λ x. let q : Match = record c.args.matcher.now { start = x } in q)
    (ap (λ t. bindings_at A B (given_values A was) (take c.pairs.place t ++ was)) c.as_slice-pairs.ensures.pairs ∙ start-end A c.args.start.now was c.requires.same B c.pairs.place (omega arith))

pub returns-clause-entries : goal.returns-clause-entries
returns-clause-entries c =
    let A = c.args.source.now.facts in
    let was = c.args.was.now.value in
    let all = ap length c.as_slice-pairs.ensures.pairs in
    let over = c.pairs-test.false in
    let few = c.pairs.invariant.2 in
    entries-end A c.args.start.now was c.pairs.given c.pairs.place
    (subst (λ t. AreEntries A (take c.pairs.place t ++ drop c.pairs.place was) c.pairs.given) c.as_slice-pairs.ensures.pairs c.pairs.invariant.1) (omega arith) (omega arith)
