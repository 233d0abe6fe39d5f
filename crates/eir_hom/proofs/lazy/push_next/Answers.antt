use Rattle.std.proofs.Common.{◌≡◌, ◌++◌, ◌∷◌, ℕ, [], List, Some, length, slice_get, sym, ap, ap₂, ◌∙◌, subst, arith}
use Rattle.eir_term.specs.Instances.{values}
use Rattle.eir_hom.specs.FactRows.{Within}
use Rattle.eir_hom.specs.Levels.{but_at}
use Rattle.eir_hom.specs.Tables.{table_at}
use Rattle.eir_hom.specs.Compiling.{slot_in}
use Rattle.eir_hom.specs.Matching.{Level, Match}
use Rattle.eir_hom.proofs.TableLaws.{numbers-read}
use Rattle.eir_hom.proofs.PushLaws.{row-below}
use Rattle.eir_hom.proofs.LazyLaws.{its_shape, its_table, its_stride, its_key, levels-next}
use Rattle.eir_hom.proofs.lazy.push_next.Goals as goal

pub shape-shape-requires : goal.shape-shape-requires
shape-shape-requires c = omega (arith, c.len-level.ensures, c.requires.cut.facts, c.requires.more)

pub numbers_at-numbers-requires : goal.numbers_at-numbers-requires
numbers_at-numbers-requires c =
    let A = c.args.source.now.facts in
    let m = c.args.matcher.now in
    let s = c.shape-shape.result in
    let at : Some c.shape-shape.result ≡ slice_get c.args.matcher.now.shapes (length c.args.matcher.now.levels) = c.shape-shape.ensures.shape ∙ ap (slice_get c.args.matcher.now.shapes) c.len-level.ensures in
    (its_shape A m c.requires.cut c.requires.more s at).0

pub key_slot-key-requires : goal.key_slot-key-requires
key_slot-key-requires c =
    let A = c.args.source.now.facts in
    let m = c.args.matcher.now in
    let s = c.shape-shape.result in
    let at : Some c.shape-shape.result ≡ slice_get c.args.matcher.now.shapes (length c.args.matcher.now.levels) = c.shape-shape.ensures.shape ∙ ap (slice_get c.args.matcher.now.shapes) c.len-level.ensures in
    let ns = numbers-read A s.place c.numbers_at-numbers.result.now c.numbers_at-numbers.ensures in
    subst (Within s.column) (sym ns) (its_shape A m c.requires.cut c.requires.more s at).1

pub push_level-requires-clause-placed : goal.push_level-requires-clause-placed
push_level-requires-clause-placed c = rw c.shape-shape.ensures.same c.requires.placed

pub push_level-requires-clause-table : goal.push_level-requires-clause-table
push_level-requires-clause-table c =
    let A = c.args.source.now.facts in
    let m = c.args.matcher.now in
    let s = c.shape-shape.result in
    let at : Some c.shape-shape.result ≡ slice_get c.args.matcher.now.shapes (length c.args.matcher.now.levels) = c.shape-shape.ensures.shape ∙ ap (slice_get c.args.matcher.now.shapes) c.len-level.ensures in
    rw c.shape-shape.ensures.same (its_table A m c.requires.cut c.requires.more s at)

pub push_level-requires-clause-column : goal.push_level-requires-clause-column
push_level-requires-clause-column c =
    let A = c.args.source.now.facts in
    let m = c.args.matcher.now in
    let s = c.shape-shape.result in
    let at : Some c.shape-shape.result ≡ slice_get c.args.matcher.now.shapes (length c.args.matcher.now.levels) = c.shape-shape.ensures.shape ∙ ap (slice_get c.args.matcher.now.shapes) c.len-level.ensures in
    let ns = numbers-read A s.place c.numbers_at-numbers.result.now c.numbers_at-numbers.ensures in
    subst (Within s.column) (sym ns) (its_shape A m c.requires.cut c.requires.more s at).1

pub push_level-requires-clause-key : goal.push_level-requires-clause-key
push_level-requires-clause-key c =
    let A = c.args.source.now.facts in
    let m = c.args.matcher.now in
    let s = c.shape-shape.result in
    let at : Some c.shape-shape.result ≡ slice_get c.args.matcher.now.shapes (length c.args.matcher.now.levels) = c.shape-shape.ensures.shape ∙ ap (slice_get c.args.matcher.now.shapes) c.len-level.ensures in
    let ns = numbers-read A s.place c.numbers_at-numbers.result.now c.numbers_at-numbers.ensures in
    let key = c.key_slot-key.ensures ∙ ap (slot_in (length (values A)) s.column) ns in
    rw (c.shape-shape.ensures.same, key) (its_key A m c.requires.cut c.requires.more s at)

pub push_level-requires-clause-slots : goal.push_level-requires-clause-slots
push_level-requires-clause-slots c =
    let A = c.args.source.now.facts in
    let m = c.args.matcher.now in
    let s = c.shape-shape.result in
    let at : Some c.shape-shape.result ≡ slice_get c.args.matcher.now.shapes (length c.args.matcher.now.levels) = c.shape-shape.ensures.shape ∙ ap (slice_get c.args.matcher.now.shapes) c.len-level.ensures in
    let ns = numbers-read A s.place c.numbers_at-numbers.result.now c.numbers_at-numbers.ensures in
    rw (c.shape-shape.ensures.same, ns) (row-below A s.column s.place c.args.matcher.now.slots c.requires.cut.slots)

pub push_level-requires-clause-stride : goal.push_level-requires-clause-stride
push_level-requires-clause-stride c =
    let A = c.args.source.now.facts in
    let m = c.args.matcher.now in
    let s = c.shape-shape.result in
    let at : Some c.shape-shape.result ≡ slice_get c.args.matcher.now.shapes (length c.args.matcher.now.levels) = c.shape-shape.ensures.shape ∙ ap (slice_get c.args.matcher.now.shapes) c.len-level.ensures in
    let ns = numbers-read A s.place c.numbers_at-numbers.result.now c.numbers_at-numbers.ensures in
    rw (c.shape-shape.ensures.same, ns) (its_stride A m c.requires.cut c.requires.more s at)

pub returns : goal.returns
returns c =
    let A = c.args.source.now.facts in
    let m = c.args.matcher.now in
    let s = c.shape-shape.result in
    let at : Some c.shape-shape.result ≡ slice_get c.args.matcher.now.shapes (length c.args.matcher.now.levels) = c.shape-shape.ensures.shape ∙ ap (slice_get c.args.matcher.now.shapes) c.len-level.ensures in
    let ns = numbers-read A s.place c.numbers_at-numbers.result.now c.numbers_at-numbers.ensures in
    let f : Match → List ℕ → ℕ → Match = λ x xs k. record x { levels = x.levels ++ (record { key = k; slots = but_at c.shape-shape.result.column xs; rows = (table_at x.tables (length x.levels)).rows }) ∷ [] } in
    let with : List Level → Match = λ ls. record c.args.matcher.now { levels = ls } in
    let key = c.key_slot-key.ensures ∙ ap (slot_in (length (values A)) s.column) ns in
    c.push_level.ensures ∙ ap (λ x. f x c.numbers_at-numbers.result.now c.key_slot-key.result) c.shape-shape.ensures.same ∙ ap₂ (f m) ns key ∙ ap with (levels-next A m c.requires.cut c.requires.more s at)
