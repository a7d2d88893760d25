-- `paint`: what the view of the settings and the key texts show, blank in secret mode and under the layer, is the picture.
use Rattle.paint.proofs.Pictures.{texts_size, whole-picture}
use Rattle.paint.proofs.paint.Goals as goal

pub view_of-panes-requires : goal.view_of-panes-requires
view_of-panes-requires c =
    c.requires.visible

pub returns : goal.returns
returns c dots =
    let a = c.args in
    whole-picture a.settings a.cells.now a.layer.now dots c.view_of-panes.result c.view_of-panes.ensures a.shown.now (texts_size c.requires.visible.0) c.told-shown
    c.paint_under.ensures c.paint_keys.ensures c.lay_over.ensures
