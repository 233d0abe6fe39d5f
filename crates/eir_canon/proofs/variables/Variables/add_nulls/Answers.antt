use Rattle.std.proofs.Common.{refl, sym, ap, ◌∙◌}
use Rattle.eir_term.specs.declared.val.Val.TheVariants.{Const}
use Rattle.eir_term.specs.Values.{is_null}
use Rattle.eir_canon.proofs.VariableLaws.{without-variable, null-apart, variables-more, variables-same, told-more}
use Rattle.eir_canon.proofs.VariableLaws.{told-same}
use Rattle.eir_canon.proofs.variables.Variables.add_nulls.Goals as goal
use Rattle.eir_canon.proofs.variables.Variables.add_nulls.Goals.{then-is_null+in_ok-add+in_ok-push, else-is_null}

pub add-requires : goal.add-requires
add-requires c =
    without-variable is_null c.args.self.now c.values-value-items.result.now c.loop-value.value-index (Const 0) _
    c.loop-value.self c.values-value-items.ensures.distinct c.loop-value-test.true refl
    (null-apart c.args.self.now _ c.requires (sym c.is_null.ensures ∙ c.if-is_null.true)) c.loop-value.invariant.all

pub loop-value-preserved : goal.loop-value-preserved
loop-value-preserved c = elim c.if-is_null.branch [
  | then-is_null+in_ok-add+in_ok-push w ↦ record {
    all = variables-more is_null c.args.self.now c.values-value-items.result.now c.loop-value.value-index (Const 0) _
        c.loop-value-test.true refl c.loop-value.self c.loop-value.invariant.all c.if-is_null.self
        (sym c.is_null.ensures ∙ w.if-is_null.true) (w.self-is ∙ w.in_ok-add.ensures.added);
    told = told-more is_null c.args.self.now c.values-value-items.result.now c.loop-value.value-index (Const 0) _
        c.loop-value-test.true refl c.loop-value.self c.loop-value.invariant.all c.loop-value.told.items
        c.if-is_null.told.items _ (sym c.is_null.ensures ∙ w.if-is_null.true) c.loop-value.invariant.told
        w.in_ok-add.ensures.number (ap (λ t. t.items) w.told-is ∙ w.in_ok-push.ensures.items);
  }
  | else-is_null w ↦ record {
    all = w.self-is ∙ variables-same is_null c.args.self.now c.values-value-items.result.now c.loop-value.value-index
        (Const 0) _ c.loop-value-test.true refl c.loop-value.self c.loop-value.invariant.all
        (sym c.is_null.ensures ∙ w.if-is_null.false);
    told = ap (λ t. t.items) w.told-is ∙ told-same is_null c.args.self.now c.values-value-items.result.now
        c.loop-value.value-index (Const 0) _ c.loop-value-test.true refl c.loop-value.self c.loop-value.invariant.all
        c.loop-value.told.items (sym c.is_null.ensures ∙ w.if-is_null.false) c.loop-value.invariant.told;
  }
]
