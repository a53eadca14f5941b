-- What a caller in C sets, as a job takes it.
use Rattle.colour.specs.declared.Colour.{Colour}
use Rattle.colour.specs.Channels.{rgb}
use Rattle.job.specs.declared.settings.Settings.{Settings}
use Rattle.job.specs.declared.settings.Surface.{Surface}
use Rattle.speed.specs.declared.settings.SpeedColour.{SpeedColour}
use Rattle.speed.specs.declared.settings.SpeedSettings.{SpeedSettings}
use Rattle.speed.specs.declared.settings.SpeedSurface.{SpeedSurface}

abbrev pub surface_of : SpeedSurface → Surface
surface_of s = record { depth = s.depth; start = s.start; image = s.image; left = s.left; top = s.top }

abbrev pub colour_of : SpeedColour → Colour
colour_of c = rgb c.red c.green c.blue

abbrev pub settings_of : SpeedSettings → Settings
settings_of s = record {
  operation = s.operation;
  code = s.code;
  large = s.large;
  level = s.level;
  first = surface_of s.first;
  second = surface_of s.second;
  target = surface_of s.target;
  width = s.width;
  height = s.height;
  foreground = colour_of s.foreground;
  background = colour_of s.background;
}
