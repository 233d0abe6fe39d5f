-- What every line keeps of the examples: no source has a null. It follows from the laws of a history.
use Rattle.std.proofs.Common.{◌≡◌, ℕ, Bool, List, [], ◌∷◌, ◌++◌, map, Option, Some, None, refl, sym, ◌∙◌, ap, subst, inl, inr, arith}
use Rattle.eir_term.specs.Lists.{◌∈◌}
use Rattle.eir_term.specs.Instances.{IsSource}
use Rattle.eir_term.specs.Fitting.{DataExample}
use Rattle.eir_term.specs.Headline.{AllSources}
use Rattle.eir_term.proofs.ListLaws.{∈-map_from}
use Rattle.eir_script.specs.declared.command.Command.{Command}
use Rattle.eir_script.specs.declared.command.Command.TheVariants as command
use Rattle.eir_script.specs.Reading.{reading}
use Rattle.eir_script.specs.Naming.{command_read}
use Rattle.eir_edit.specs.Causes.{Cause, first_cause}
use Rattle.eir_edit.specs.Histories.{Example, changed, dropped}
use Rattle.eir_edit.specs.Edits.{put_tests, new_example, put_on, cut_from}
use Rattle.eir_edit.specs.Goods.{IsGoodList, IsGoodHistory}
use Rattle.eir_edit.specs.State as state
use Rattle.eir_edit.specs.State.{Act, Desk, refusal, done, unless, after as desk_after, fact_tests, fact_of, relation_of}
use Rattle.eir_edit.proofs.CauseLaws.{NoneHolds, NoneHolds-from_none, first_cause-append, first_cause-front}
use Rattle.eir_edit.proofs.GoodLaws.{present as good_present, IsGoodHistory-edited, IsGoodHistory-undone, IsGoodList-add, IsGoodList-put, IsGoodList-cut, IsGoodList-drop}
use Rattle.eir_edit.specs.Pairs.{pair_of}
use Rattle.eirene.specs.Workspaces.{Workspace, empty_workspace, present}
use Rattle.eirene.specs.Replies.{Request, act, fit, after, next, next_by, request_of, with_names}
use Rattle.eirene.specs.Scripts.{workspace_after}

-- the history is good, and instances may have 512 facts
abbrev pub IsKept : Desk → Type 0
IsKept d = IsGoodHistory 512 d.history × (d.limit ≡ 512)

-- what a command asks of a desk: nothing is taken from another one
abbrev pub IsOwn : Act → Type 0
IsOwn (state.borrow e loan) = ⊥
IsOwn a = Unit {0}

-- an act that no test refuses keeps it
kept-done : (n : ℕ) (a : Act) (d : Desk) → IsOwn a → refusal a d ≡ None → IsKept d → IsKept (done n a d)
kept-done n (state.declare s r cs) d own none kept = kept
kept-done n (state.add e) d own none kept = (IsGoodHistory-edited 512 (d.history.list ++ new_example n e ∷ []) d.history kept.0 (IsGoodList-add 512 n e d.history kept.0 none), kept.1)
kept-done n (state.put e g) d own none kept =
    let before : first_cause (fact_tests g d.schema) ≡ None = first_cause-front (fact_tests g d.schema) (put_tests d.limit e (relation_of g d.schema).side (fact_of g d.schema) d.history) none in
    let none_holds : NoneHolds (fact_tests g d.schema) = NoneHolds-from_none (fact_tests g d.schema) before in
    let behind : first_cause (put_tests d.limit e (relation_of g d.schema).side (fact_of g d.schema) d.history) ≡ None = sym (first_cause-append (fact_tests g d.schema) (put_tests d.limit e (relation_of g d.schema).side (fact_of g d.schema) d.history) before) ∙ none in (
      IsGoodHistory-edited 512 (changed e (put_on n (relation_of g d.schema).side (fact_of g d.schema)) d.history.list) d.history kept.0 (IsGoodList-put 512 n e (relation_of g d.schema).side (fact_of g d.schema) d.history kept.0 none_holds.1.1.0
          (subst (λ (m : ℕ). first_cause (put_tests m e (relation_of g d.schema).side (fact_of g d.schema) d.history) ≡ None) kept.1 behind)),
      kept.1,
    )
kept-done n (state.cut e g) d own none kept = (IsGoodHistory-edited 512 (changed e (cut_from n (relation_of g d.schema).side (fact_of g d.schema)) d.history.list) d.history kept.0 (IsGoodList-cut 512 n e (relation_of g d.schema).side (fact_of g d.schema) d.history kept.0), kept.1)
kept-done n (state.drop e) d own none kept = (IsGoodHistory-edited 512 (dropped e d.history.list) d.history kept.0 (IsGoodList-drop 512 e d.history kept.0), kept.1)
kept-done n state.undo_last d own none kept = (IsGoodHistory-undone 512 d.history kept.0, kept.1)
kept-done n (state.borrow e loan) d own none kept = absurd own
kept-done n (state.set_kind k) d own none kept = kept
kept-done n (state.set_budget b) d own none kept = kept

kept-act : (n : ℕ) (a : Act) (d : Desk) → IsOwn a → IsKept d → IsKept (desk_after n a d)
kept-act n a d own kept = by (refusal a d) refl
  where
    by : (r : Option Cause) → refusal a d ≡ r → IsKept (unless r d (done n a d))
    by None e = kept-done n a d own e kept
    by (Some c) e = kept

-- what is asked is one's own
abbrev IsOwnRequest : Option Request → Type 0
IsOwnRequest None = Unit {0}
IsOwnRequest (Some (act a)) = IsOwn a
IsOwnRequest (Some fit) = Unit {0}

request-own : (c : Command) → IsOwnRequest (request_of c)
request-own command.Blank = tt
request-own (command.Declare side r columns) = tt
request-own (command.New e) = tt
request-own (command.Put e f) = tt
request-own (command.Cut e f) = tt
request-own (command.Drop e) = tt
request-own command.Undo = tt
request-own (command.Take d e) = tt
request-own (command.Kind k) = tt
request-own (command.Budget n) = tt
request-own command.Fit = tt
request-own command.Tries = tt
request-own command.Reduce = tt
request-own (command.Chase e) = tt
request-own (command.Cert file) = tt
request-own (command.Table r file) = tt
request-own command.Exchange = tt

kept-after : (asked : Option Request) (w : Workspace) → IsOwnRequest asked → IsKept w.work.desk → IsKept (after asked w).work.desk
kept-after None w own kept = kept
kept-after (Some (act a)) w own kept = kept-act w.work.drawn a w.work.desk own kept
kept-after (Some fit) w own kept = kept

-- a line keeps it
kept-next : (line : List ℕ) (w : Workspace) → IsKept w.work.desk → IsKept (next line w).work.desk
kept-next line w kept = by (command_read (with_names (reading line) w).names (reading line))
  where
    by : (c : Option Command) → IsKept (next_by c (with_names (reading line) w)).work.desk
    by None = kept
    by (Some c) = kept-after (request_of c) (with_names (reading line) w) (request-own c) kept

kept-lines : (w : Workspace) (lines : List (List ℕ)) → IsKept w.work.desk → IsKept (workspace_after w lines).work.desk
kept-lines w [] kept = kept
kept-lines w (line ∷ lines) kept = kept-lines (next line w) lines (kept-next line w kept)

kept-empty : IsKept empty_workspace.work.desk
kept-empty = (record { lists = λ xs h. elim h [ inl e ↦ subst (λ ys. IsGoodList 512 ys) (sym e) (record { named_apart = tt; few = omega arith; each = λ x k. absurd k }) | inr k ↦ absurd k ]; short = omega arith }, refl)

-- no source of a good list has a null
pub AllSources-good : (xs : List Example) → IsGoodList 512 xs → AllSources (map pair_of xs)
AllSources-good xs good e h = let r = ∈-map_from pair_of e xs h in subst (λ (p : DataExample). IsSource p.source) (sym r.2) (good.each r.0 r.1).ground

-- no source has a null after any lines
pub AllSources-lines : (lines : List (List ℕ)) → AllSources (present (workspace_after empty_workspace lines))
AllSources-lines lines =
    let w : Workspace = workspace_after empty_workspace lines in
    AllSources-good w.work.desk.history.list (good_present 512 w.work.desk.history (kept-lines empty_workspace lines kept-empty).0)
