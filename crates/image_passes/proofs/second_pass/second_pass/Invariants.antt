use Rattle.std.proofs.Common.{length, ◌-◌}
use Rattle.text_lexical.specs.Names.{present}
use Rattle.image_passes.proofs.Passes.{Worded}
use Rattle.image_passes.proofs.second_pass.second_pass.Given as goal

-- The words of the lines before `at` are put, and the lines from there on are left, where the settings there are those of `config`.
abbrev pub invariant-loop-draft : goal.invariant-loop-draft
invariant-loop-draft g l = Worded g.S.Sink.Fits g.S.Sink.Took present l.source l.initial.sink l.sink l.at l.line l.words l.config

abbrev pub decreases-loop-draft : goal.decreases-loop-draft
decreases-loop-draft g l = length l.source - l.at
