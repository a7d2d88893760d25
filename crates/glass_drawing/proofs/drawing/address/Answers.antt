-- `address` is the definition.
use Rattle.std.proofs.Common.{refl}
use Rattle.glass_drawing.specs.Drawing.{address_of}
use Rattle.glass_drawing.proofs.drawing.address.Goals as goal

pub returns : goal.returns
unfolding address_of
returns c = refl
