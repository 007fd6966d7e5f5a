use Rattle.image_passes.proofs.Scanning.{scans_label, scans_on}
use Rattle.image_passes.proofs.first_pass.read_on.Goals as goal

pub returns-in-Some : goal.returns-in-Some
returns-in-Some c = scans_label c.loop-length.invariant c.read_line-read.ensures c.rest_of-rest.ensures c.in-Some.is c.at_label.ensures

pub loop-length-preserved : goal.loop-length-preserved
loop-length-preserved c = scans_on c.loop-length.invariant c.read_line-read.ensures c.rest_of-rest.ensures c.in_default.is c.after_line.ensures c.in-From.is
