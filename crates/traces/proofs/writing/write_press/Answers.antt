-- `write_press`: the press, then its repeats, which lie below an end of four bytes.
use native.Mathlib.Omega.{arith}
use Rattle.traces.proofs.Counting.{by_length}
use Rattle.traces.proofs.Laying.{press_laid}
use Rattle.traces.proofs.Claimed.{repeats_held}
use Rattle.traces.proofs.writing.write_press.Goals as goal

pub lay-requires : goal.lay-requires
lay-requires c =
    let a = c.args in
    omega (arith, by_length a.repeating.keys a.stroke a.end c.repeat_count-count.ensures.0, c.requires)

pub lay_every-requires : goal.lay_every-requires
lay_every-requires c =
    let a = c.args in
    let each = repeats_held a.repeating.keys a.repeating.apart a.stroke.tick a.end (omega (arith, c.ranges.end)) in (
      λ j l. omega (arith, each j (omega (arith, c.repeat_count-count.ensures.0)), c.first_repeat-first.ensures.0),
      omega (arith, by_length a.repeating.keys a.stroke a.end c.repeat_count-count.ensures.0, c.requires),
    )

pub returns : goal.returns
returns c =
    let a = c.args in
    let e = c.repeat_count-count.ensures.0 in (
      press_laid a.repeating.keys a.stroke a.end a.place a.output.now c.requires e c.first_repeat-first.ensures.0 c.lay.ensures c.lay_every.ensures.0,
      omega (arith, c.lay_every.ensures.1, by_length a.repeating.keys a.stroke a.end e),
    )
