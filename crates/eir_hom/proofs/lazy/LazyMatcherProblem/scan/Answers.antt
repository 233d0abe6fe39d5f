use Rattle.std.proofs.Common.{◌≡◌, ◌<◌, ◌≤◌, ◌++◌, ◌∷◌, [], is_some, length, subst, refl, ap, sym, ◌∙◌, arith}
use Rattle.std.proofs.lemmas.List.{length_push}
use Rattle.eir_hom.specs.Matching.{Match, matched, match_space}
use Rattle.eir_hom.proofs.LazyLaws.{reached-below, width-cut, matched-cut, cut-kept, view-base}
use Rattle.eir_hom.proofs.lazy.LazyMatcherProblem.scan.Goals as goal

pub scan-found-requires-clause-below : goal.scan-found-requires-clause-below
scan-found-requires-clause-below c =
    let A = c.self.inside.source.value.facts in
    let m = c.self.inside.matcher in
    let cut = c.self.invariant.0 in
    let reached = c.self.invariant.1 in
    let le : c.args.level ≡ length c.self.inside.matcher.placed = omega (arith, c.requires.level, ap (λ (x : Match). length x.placed) c.self.view_is) in
    let lt : c.args.level < length c.self.inside.matcher.levels = reached-below A m cut c.args.level reached (omega (arith, le)) (omega (arith, c.requires.below, ap (λ (x : Match). length x.levels) c.self.view_is)) in
    lt

pub scan-found-requires-clause-level : goal.scan-found-requires-clause-level
scan-found-requires-clause-level c = omega (arith, c.requires.level, ap (λ (x : Match). length x.placed) c.self.view_is)

pub scan-found-requires-clause-to : goal.scan-found-requires-clause-to
scan-found-requires-clause-to c =
    let A = c.self.inside.source.value.facts in
    let m = c.self.inside.matcher in
    let cut = c.self.invariant.0 in
    let reached = c.self.invariant.1 in
    let le : c.args.level ≡ length c.self.inside.matcher.placed = omega (arith, c.requires.level, ap (λ (x : Match). length x.placed) c.self.view_is) in
    let lt : c.args.level < length c.self.inside.matcher.levels = reached-below A m cut c.args.level reached (omega (arith, le)) (omega (arith, c.requires.below, ap (λ (x : Match). length x.levels) c.self.view_is)) in
    let e = sym (width-cut A m cut m.start m.placed (omega (arith, le, lt))) ∙ ap (λ (x : Match). (match_space x.levels x.start).width x.placed) c.self.view_is in
    subst (λ n. c.args.to ≤ n) (sym e) c.requires.to

pub reach-requires : goal.reach-requires
reach-requires c =
    let A = c.self.inside.source.value.facts in
    let m = c.self.inside.matcher in
    let cut = c.self.invariant.0 in
    let reached = c.self.invariant.1 in
    let le : c.args.level ≡ length c.self.inside.matcher.placed = omega (arith, c.requires.level, ap (λ (x : Match). length x.placed) c.self.view_is) in
    let lt : c.args.level < length c.self.inside.matcher.levels = reached-below A m cut c.args.level reached (omega (arith, le)) (omega (arith, c.requires.below, ap (λ (x : Match). length x.levels) c.self.view_is)) in
    let sc = c.scan-found.new.self in
    let placed : c.scan-found.new.self.placed ≡ c.self.inside.matcher.placed ++ c.scan-found.result ∷ [] = c.scan-found.ensures.placed c.if-found-to.true in
    let count : length c.scan-found.new.self.placed ≤ length c.self.inside.matcher.levels = omega (arith, ap length placed, length_push m.placed c.scan-found.result, le, lt) in
    rw c.deref.ensures (cut-kept A m sc cut c.scan-found.ensures.base count)

pub invariant_of-self : goal.invariant_of-self
invariant_of-self c = (rw c.deref.ensures at c.reach.ensures.cut, rw c.deref.ensures at c.reach.ensures.reached)

pub invariant_of-self-else-found-to : goal.invariant_of-self-else-found-to
invariant_of-self-else-found-to c =
    let A = c.self.inside.source.value.facts in
    let m = c.self.inside.matcher in
    let cut = c.self.invariant.0 in
    let reached = c.self.invariant.1 in
    let le : c.args.level ≡ length c.self.inside.matcher.placed = omega (arith, c.requires.level, ap (λ (x : Match). length x.placed) c.self.view_is) in
    let lt : c.args.level < length c.self.inside.matcher.levels = reached-below A m cut c.args.level reached (omega (arith, le)) (omega (arith, c.requires.below, ap (λ (x : Match). length x.levels) c.self.view_is)) in
    let e : c.scan-found.result ≡ c.args.to = omega (arith, c.scan-found.ensures.to, c.if-found-to.false) in
    let placed = c.scan-found.ensures.none e in
    let levels = ap (λ (x : Match). x.levels) c.scan-found.ensures.base in
    (cut-kept A m c.scan-found.new.self cut c.scan-found.ensures.base (omega (arith, ap length placed, cut.deep)), rw (levels, placed) reached)

pub returns-then-found-to-clause-space : goal.returns-then-found-to-clause-space
returns-then-found-to-clause-space c =
    let A = c.self.inside.source.value.facts in
    ap (λ (x : Match). match_space x.levels x.start) (view-base A c.self.inside.matcher c.scan-found.new.self c.reach.new.matcher c.reach.ensures.same c.scan-found.ensures.base)
    ∙ ap (λ (x : Match). match_space x.levels x.start) c.self.view_is

pub returns-then-found-to-clause-base : goal.returns-then-found-to-clause-base
returns-then-found-to-clause-base c =
    let A = c.self.inside.source.value.facts in
    view-base A c.self.inside.matcher c.scan-found.new.self c.reach.new.matcher c.reach.ensures.same c.scan-found.ensures.base
    ∙ ap (λ (x : Match). let y : Match = record x { placed = [] } in y) c.self.view_is

pub returns-else-found-to-clause-space : goal.returns-else-found-to-clause-space
returns-else-found-to-clause-space c =
    let A = c.self.inside.source.value.facts in
    ap (λ (x : Match). match_space x.levels x.start) (view-base A c.self.inside.matcher c.scan-found.new.self c.scan-found.new.self refl c.scan-found.ensures.base)
    ∙ ap (λ (x : Match). match_space x.levels x.start) c.self.view_is

pub returns-else-found-to-clause-base : goal.returns-else-found-to-clause-base
returns-else-found-to-clause-base c =
    let A = c.self.inside.source.value.facts in
    view-base A c.self.inside.matcher c.scan-found.new.self c.scan-found.new.self refl c.scan-found.ensures.base
    ∙ ap (λ (x : Match). let y : Match = record x { placed = [] } in y) c.self.view_is

pub returns-then-found-to-clause-bad : goal.returns-then-found-to-clause-bad
returns-then-found-to-clause-bad c =
    let A = c.self.inside.source.value.facts in
    let m = c.self.inside.matcher in
    let cut = c.self.invariant.0 in
    let reached = c.self.invariant.1 in
    let le : c.args.level ≡ length c.self.inside.matcher.placed = omega (arith, c.requires.level, ap (λ (x : Match). length x.placed) c.self.view_is) in
    let lt : c.args.level < length c.self.inside.matcher.levels = reached-below A m cut c.args.level reached (omega (arith, le)) (omega (arith, c.requires.below, ap (λ (x : Match). length x.levels) c.self.view_is)) in
    λ k f h. ap (λ (x : Match). is_some (matched x.levels x.start (x.placed ++ k ∷ []))) (sym c.self.view_is)
    ∙ ap is_some (matched-cut A m cut m.start (m.placed ++ k ∷ []) (omega (arith, length_push m.placed k, le, lt))) ∙ c.scan-found.ensures.bad k f h

pub returns-else-found-to-clause-bad : goal.returns-else-found-to-clause-bad
returns-else-found-to-clause-bad c =
    let A = c.self.inside.source.value.facts in
    let m = c.self.inside.matcher in
    let cut = c.self.invariant.0 in
    let reached = c.self.invariant.1 in
    let le : c.args.level ≡ length c.self.inside.matcher.placed = omega (arith, c.requires.level, ap (λ (x : Match). length x.placed) c.self.view_is) in
    let lt : c.args.level < length c.self.inside.matcher.levels = reached-below A m cut c.args.level reached (omega (arith, le)) (omega (arith, c.requires.below, ap (λ (x : Match). length x.levels) c.self.view_is)) in
    λ k f h. ap (λ (x : Match). is_some (matched x.levels x.start (x.placed ++ k ∷ []))) (sym c.self.view_is)
    ∙ ap is_some (matched-cut A m cut m.start (m.placed ++ k ∷ []) (omega (arith, length_push m.placed k, le, lt))) ∙ c.scan-found.ensures.bad k f h

pub returns-then-found-to-clause-good : goal.returns-then-found-to-clause-good
returns-then-found-to-clause-good c =
    let A = c.self.inside.source.value.facts in
    let m = c.self.inside.matcher in
    let cut = c.self.invariant.0 in
    let reached = c.self.invariant.1 in
    let le : c.args.level ≡ length c.self.inside.matcher.placed = omega (arith, c.requires.level, ap (λ (x : Match). length x.placed) c.self.view_is) in
    let lt : c.args.level < length c.self.inside.matcher.levels = reached-below A m cut c.args.level reached (omega (arith, le)) (omega (arith, c.requires.below, ap (λ (x : Match). length x.levels) c.self.view_is)) in
    λ h. ap (λ (x : Match). is_some (matched x.levels x.start (x.placed ++ c.scan-found.result ∷ []))) (sym c.self.view_is)
    ∙ ap is_some (matched-cut A m cut m.start (m.placed ++ c.scan-found.result ∷ []) (omega (arith, length_push m.placed c.scan-found.result, le, lt))) ∙ c.scan-found.ensures.good h

pub returns-then-found-to-clause-placed : goal.returns-then-found-to-clause-placed
returns-then-found-to-clause-placed c = λ h.
    ap (λ (x : Match). x.placed) c.reach.ensures.same ∙ c.scan-found.ensures.placed h ∙ ap (λ (x : Match). x.placed ++ c.scan-found.result ∷ []) c.self.view_is
