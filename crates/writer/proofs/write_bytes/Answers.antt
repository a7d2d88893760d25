-- `writer::write_bytes` meets its contract: too many parameters are told at once; else what is gathered is what is wanted.
use native.Mathlib.Omega.{arith}
use Rattle.writer.proofs.Laws.{promised_as, too_many, wanted-given}
use Rattle.writer.proofs.write_bytes.Goals as goal

pub returns-then-parameters-gt11 : goal.returns-then-parameters-gt11
returns-then-parameters-gt11 c =
    too_many _ _ _ (omega (arith, c.if-parameters-gt11.true)) _ _ _ c.too_long.ensures

pub gather-requires : goal.gather-requires
gather-requires c =
    omega (arith, c.if-parameters-gt11.false)

pub returns : goal.returns
returns c =
    let a = c.args in
    promised_as (wanted-given a.settings a.second a.parameters.now _ c.gather.ensures) c.write_spelled.ensures
