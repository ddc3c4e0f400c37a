use Rattle.tab_core.proofs.Images.{step_images}
use Rattle.tab_core.proofs.laws.steps_have_images.Goals as goal

pub returns : goal.returns
returns g c honest before after stores stores_new holds extends =
    step_images {D = g.row.D.Denot} g.D.Disk.watch before after stores stores_new (g.met.D.Disk.only_now honest) holds extends
