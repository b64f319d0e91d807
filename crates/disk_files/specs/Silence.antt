-- What a disk shows that doesn't tell: a view with nothing in it.
use Rattle.std.specs.Prelude.{None}
use Rattle.disk_model.specs.View.{View}

abbrev pub silence : View
silence = record { reading = λ p. None; bytes_left = λ p c. ⊥; else_left = λ p o. ⊥; moment = 0; left_since = λ t c. ⊥ }
