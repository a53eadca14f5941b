-- The way of an operation that settings mean.
use Rattle.std.specs.Prelude.{not, List, map, is_some}
use Rattle.colour.specs.declared.Palette.{Palette}
use Rattle.complete.specs.declared.part.Part.{Part}
use Rattle.complete.specs.Parts.{portion_of}
use Rattle.complete.specs.Complete.{Way}
use Rattle.job.specs.declared.settings.Settings.{Settings}
use Rattle.job.specs.Plans.{plan_at, op_at}
use Rattle.job.specs.Grounds.{grounds}

-- it is accepted over the memories against which there is no ground
abbrev pub way_of : Settings → Palette → List Part → Way
way_of s p ps = record {
  operation = op_at (plan_at s);
  palette = p;
  portions = map portion_of ps;
  accepts = λ size. not (is_some (grounds s size));
}
