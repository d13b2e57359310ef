use Rattle.std.proofs.Common.{◌∙◌, arith}
use Rattle.link_text.proofs.Digits.{value_large}
use Rattle.link_text.proofs.number.value_of.Goals as goal

pub returns-in_err-checked_mul : goal.returns-in_err-checked_mul
returns-in_err-checked_mul c =
    c.from_residual.ensures ∙ value_large c.loop-b.value _ c.args.digits.now c.loop-b.b-index c.loop-b-test.true c.loop-b.invariant.value (omega (arith, c.in_err-checked_mul.ensures))

pub returns-in_err-value : goal.returns-in_err-value
returns-in_err-value c =
    c.from_residual-in_err-value.ensures ∙ value_large c.loop-b.value _ c.args.digits.now c.loop-b.b-index c.loop-b-test.true c.loop-b.invariant.value (omega (arith, c.in_err-value.ensures))
