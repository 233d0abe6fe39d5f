use Rattle.std.proofs.Common.{◌≡◌, ◌+◌, ◌++◌, ◌<◌, suc, inl, inr, Some, None, get_or, slice_get, slice_set, length, take, drop, sym, ap, ◌∙◌, subst, arith}
use Rattle.std.proofs.lemmas.Option.{slice_get-get_or}
use Rattle.eir_term.specs.declared.val.Val.TheVariants.{Const}
use Rattle.eir_hom.specs.declared.given.Given.{Given}
use Rattle.eir_hom.specs.Listings.{AreEntries}
use Rattle.eir_hom.proofs.EntryLaws.{entries-set, entries-past}
use Rattle.eir_hom.proofs.given.renew_at.Goals as goal

pub renew-requires-clause-slot : goal.renew-requires-clause-slot
renew-requires-clause-slot c =
    let items = c.args.given.now in
    let d : Given = record { name = Const 0; image = Const 0; slot = None } in
    let at : slice_get items c.args.place ≡ Some (get_or items c.args.place d) = slice_get-get_or items c.args.place d c.if-place-given.true in
    (c.requires.own (get_or items c.args.place d) at).slot

pub renew-requires-clause-there : goal.renew-requires-clause-there
renew-requires-clause-there c =
    let items = c.args.given.now in
    let d : Given = record { name = Const 0; image = Const 0; slot = None } in
    let at : slice_get items c.args.place ≡ Some (get_or items c.args.place d) = slice_get-get_or items c.args.place d c.if-place-given.true in
    (c.requires.own (get_or items c.args.place d) at).there

pub returns-then-place-given-clause-entries : goal.returns-then-place-given-clause-entries
returns-then-place-given-clause-entries c = λ t s at es.
    let items = c.args.given.now in
    let below : c.args.place < length items = omega arith in
    let next : suc c.args.place ≡ c.args.place + 1 = omega arith in
    subst (λ n. AreEntries c.args.source.now.facts (take n t ++ drop n s) (slice_set items c.args.place c.renew.new.given)) next
    (entries-set c.args.source.now.facts t s items c.args.place c.args.pair c.renew.new.given es below at c.renew.ensures.entry)

pub returns-then-place-given-clause-none : goal.returns-then-place-given-clause-none
returns-then-place-given-clause-none c = λ e.
    let items = c.args.given.now in
    let d : Given = record { name = Const 0; image = Const 0; slot = None } in
    let at : slice_get items c.args.place ≡ Some (get_or items c.args.place d) = slice_get-get_or items c.args.place d c.if-place-given.true in
    elim (c.renew.ensures.none e) [ inl n ↦ inl n | inr p ↦ inr (get_or items c.args.place d, at, p.0, p.1) ]

pub returns-else-place-given-clause-entries : goal.returns-else-place-given-clause-entries
returns-else-place-given-clause-entries c = λ t s at es.
    let items = c.args.given.now in
    let next : suc c.args.place ≡ c.args.place + 1 = omega arith in
    subst (λ n. AreEntries c.args.source.now.facts (take n t ++ drop n s) items) next
    (entries-past c.args.source.now.facts t s items c.args.place c.args.pair es (omega arith) at)
