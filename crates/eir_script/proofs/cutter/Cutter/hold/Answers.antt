use Rattle.std.proofs.Common.{◌≡◌, ◌-◌, ◌++◌, min, length, take, ◌∙◌, ap, ap₂, rules}
use Rattle.eir_script.specs.Pieces.{Taking}
use Rattle.eir_script.proofs.CutterLaws.{hold-more}
use Rattle.eir_script.proofs.cutter.Cutter.hold.Goals as goal

pub returns-clause-held : goal.returns-clause-held
returns-clause-held c line h =
    let grown : c.extend_from_slice.new.self.items ≡ c.self.inside.held.items ++ take c.min-count.result c.args.bytes.now = search rules in
    let held : c.self.inside.held.items ≡ take 4098 line = ap (λ (t : Taking). t.bytes) c.self.view_is ∙ h in
    let kept : c.len-room.result ≡ length c.self.inside.held.items = search rules in
    let count : c.min-count.result ≡ min (4098 - length (take 4098 line)) (length c.args.bytes.now) =
    c.min-count.ensures ∙ ap (λ n. min (4098 - n) (length c.args.bytes.now)) (kept ∙ ap length held) in
    grown ∙ ap₂ (λ xs n. xs ++ take n c.args.bytes.now) held count ∙ hold-more line c.args.bytes.now
