-- How each call is written as a line, and which calls can be written.
use Rattle.std.specs.Prelude.{ℕ, ◌/◌, ◌<◌, ◌≤◌, List, ◌++◌, length, codes}
use Rattle.std.specs.List.{flat_map, AllByRecursion}
use Rattle.panel_calls.specs.Calls.{Call, write, read, burst, run, stop, status, memory}
use Rattle.bench_lines.specs.Answers.{hex_byte, hex_count}

-- six digits
abbrev pub hex_address : ℕ → List ℕ
hex_address a = hex_byte (a / 65536) ++ hex_count a

-- the line of a call, without the line feed that ends it
abbrev pub spelled : Call → List ℕ
spelled (write r v) = codes "W " ++ hex_byte r ++ codes " " ++ hex_byte v
spelled (read r) = codes "R " ++ hex_byte r
spelled (burst bs) = codes "B " ++ flat_map hex_byte bs
spelled (run n) = codes "G " ++ hex_count n
spelled stop = codes "X"
spelled status = codes "S"
spelled (memory a) = codes "M " ++ hex_address a

-- the values have room in their digits, and a burst has 1 to 32 bytes
abbrev pub Sayable : Call → Type 0
Sayable (write r v) = (r < 256) × (v < 256)
Sayable (read r) = r < 256
Sayable (burst bs) = (1 ≤ length bs) × (length bs ≤ 32) × AllByRecursion (λ b. b < 256) bs
Sayable (run n) = n < 65536
Sayable stop = Unit {0}
Sayable status = Unit {0}
Sayable (memory a) = a < 16777216
