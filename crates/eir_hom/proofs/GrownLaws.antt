-- A matcher whose tables get more cells behind those that are there.
use Rattle.std.proofs.Common.{◌≡◌, ℕ, Bool, List, [], ◌∷◌, ◌++◌, length, take, drop, refl, ap, ap₂, ◌∙◌, arith}
use Rattle.std.proofs.lemmas.List.{length-append}
use Rattle.eir_hom.specs.declared.columns.Column.{Column}
use Rattle.eir_hom.specs.declared.tables.Range.{Range}
use Rattle.eir_hom.specs.declared.course.Shape.{Shape}
use Rattle.eir_hom.specs.declared.matching.CompiledLevel.{CompiledLevel}
use Rattle.eir_hom.specs.Tables.{Table, TablesView, rows_in}
use Rattle.eir_hom.specs.Matching.{Bindings, Level, Match}
use Rattle.eir_hom.specs.Columns.{seen_after, slots_of}
use Rattle.eir_hom.specs.MatcherParts.{columns_at, levels_in, start_in, AreCompiled, IsRange, IsMatcher}
use Rattle.eir_hom.proofs.TableLaws.{rows_in-append}
use Rattle.eir_hom.proofs.MatcherLaws.{Gone}
use Rattle.eir_hom.proofs.ScanLaws.{seen_of}
use Rattle.eir_hom.proofs.LevelLaws.{split-at}

-- the same tables, with more cells behind
pub record IsGrown (ts more : TablesView) : Type 0 where
  pub tables : more.tables ≡ ts.tables
  pub shapes : more.shapes ≡ ts.shapes
  pub cells : take (length ts.cells) more.cells ≡ ts.cells

module _ (ts more : TablesView) (g : IsGrown ts more) where
  pub levels-on : (cs : List Column) (ls : List CompiledLevel) → levels_in more cs ls ≡ levels_in ts cs ls
  levels-on cs [] = refl
  levels-on cs (l ∷ ls) = rw (g.tables, levels-on cs ls) refl

  pub view-on : (cs : List Column) (ls : List CompiledLevel) (given images placed : List ℕ) (depth : ℕ) (now : Match) →
      seen_of ts cs ls given images placed depth ≡ now → seen_of more cs ls given images placed depth ≡ now
  view-on cs ls given images placed depth now v =
      let m : List Table → List Shape → List Level → Match = λ t s l. record { slots = length images; tables = t; shapes = s; levels = l; start = start_in given images; placed = take depth placed } in
      ap₂ (λ t s. m t s (levels_in more cs ls)) g.tables g.shapes ∙ ap (m ts.tables ts.shapes) (levels-on cs ls) ∙ v

  compiled-on : (cs : List Column) (slots : ℕ) (seen : List ℕ) (ls : List CompiledLevel) →
      AreCompiled ts cs slots seen ls → AreCompiled more cs slots seen ls
  compiled-on cs slots seen [] a = tt
  compiled-on cs slots seen (l ∷ ls) a = (
    record {
      table = rw g.tables a.0.table;
      stride = rw g.tables a.0.stride;
      columns = a.0.columns;
      key_seen = a.0.key_seen;
      key_below = a.0.key_below;
      slots_below = a.0.slots_below;
      are_columns = a.0.are_columns;
    },
    compiled-on cs slots (seen_after seen (slots_of (columns_at cs l))) ls a.1,
  )

  range-on : (cs : List Column) (l : CompiledLevel) (r : Range) (m : Bindings) → IsRange ts cs l r m → IsRange more cs l r m
  range-on cs l r m i =
      let all : more.cells ≡ ts.cells ++ drop (length ts.cells) more.cells = split-at ts.cells more.cells g.cells in
      let rows : rows_in more.cells l.stride r ≡ rows_in ts.cells l.stride r =
      ap (λ xs. rows_in xs l.stride r) all ∙ rows_in-append ts.cells (drop (length ts.cells) more.cells) l.stride r i.within in
      record {
        rows = rows ∙ rw g.tables i.rows;
        within = omega (arith, i.within, ap length all, length-append ts.cells (drop (length ts.cells) more.cells));
      }

  pub matcher-on : (cs : List Column) (ls : List CompiledLevel) (given images : List ℕ) (flags : List Bool)
      (ranges : List Range) (placed : List ℕ) (depth : ℕ) →
      IsMatcher ts cs ls given images flags ranges placed depth → IsMatcher more cs ls given images flags ranges placed depth
  matcher-on cs ls given images flags ranges placed depth p =
      let e = levels-on cs ls in
      record {
        flags_room = p.flags_room;
        ranges_room = p.ranges_room;
        placed_room = p.placed_room;
        deep = p.deep;
        given_below = p.given_below;
        compiled = compiled-on cs (length images) given ls p.compiled;
        bound = rw e p.bound;
        stands = rw e p.stands;
        ranges_are = λ k l r m le a b f. range-on cs l r m (p.ranges_are k l r m le a b (rw e at f));
      }

  pub gone-on : (cs : List Column) (ls : List CompiledLevel) (given images placed : List ℕ) (depth k : ℕ) (after : List ℕ) →
      Gone ts cs ls given images placed depth k after → Gone more cs ls given images placed depth k after
  gone-on cs ls given images placed depth k after h =
      record { reached = h.reached; matches = rw (levels-on cs ls) h.matches; holds = h.holds }
