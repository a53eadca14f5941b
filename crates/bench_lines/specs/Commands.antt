-- Which command a line is.
use Rattle.std.specs.Prelude.{ℕ, zero, suc, ◌+◌, ◌-◌, ◌*◌, ◌/◌, ◌%◌, cond, ◌&&◌, List, [], ◌∷◌, length, Some, None, Option, ◌==◌, nat_le, slice_index_or}
use Rattle.panel_calls.specs.Calls.{Call, write, read, burst, run, stop, status, memory}
use Rattle.bench_lines.specs.declared.command.Command.{Command}
use Rattle.bench_lines.specs.declared.command.Command.TheVariants as command
use Rattle.bench_lines.specs.Digits.{both_of, byte_at, spaced}

-- the call that a command is
abbrev pub call_of : Command → Call
call_of (command.Write r v) = write r v
call_of (command.Read r) = read r
call_of (command.Burst bs) = burst bs
call_of (command.Run n) = run n
call_of command.Stop = stop
call_of command.Status = status
call_of (command.Memory a) = memory a

abbrev pub meant : Option Command → Option Call
meant None = None
meant (Some c) = Some (call_of c)

-- W rr vv
abbrev pub write_line : List ℕ → Option Call
write_line l = cond (length l == 7 && (spaced l 1 && spaced l 4)) (both_of write (byte_at l 2) (byte_at l 5)) None

-- R rr
abbrev pub read_register : List ℕ → Option Call
read_register l = cond (length l == 4 && spaced l 1) (both_of (λ r _. read r) (byte_at l 2) (Some 0)) None

-- G nnnn
abbrev pub run_line : List ℕ → Option Call
run_line l = cond (length l == 6 && spaced l 1) (both_of (λ h d. run (h * 256 + d)) (byte_at l 2) (byte_at l 4)) None

-- M aaaaaa
abbrev pub memory_line : List ℕ → Option Call
memory_line l =
    cond (length l == 8 && spaced l 1)
    (both_of (λ h d. memory (h * 256 + d)) (both_of (λ h d. h * 256 + d) (byte_at l 2) (byte_at l 4)) (byte_at l 6)) None

abbrev pub with_first : Option ℕ → Option (List ℕ) → Option (List ℕ)
with_first None o = None
with_first (Some b) None = None
with_first (Some b) (Some bs) = Some (b ∷ bs)

-- the bytes that 2n digits at a place spell
abbrev pub bytes_at : List ℕ → ℕ → ℕ → Option (List ℕ)
bytes_at l k zero = Some []
bytes_at l k (suc n) = with_first (byte_at l k) (bytes_at l (k + 2) n)

abbrev pub as_burst : Option (List ℕ) → Option Call
as_burst None = None
as_burst (Some bs) = Some (burst bs)

-- B, then the digits of 1 to 32 bytes
abbrev pub burst_line : List ℕ → Option Call
burst_line l =
    cond (nat_le 4 (length l) && (nat_le (length l) 66 && (length l % 2 == 0 && spaced l 1)))
    (as_burst (bytes_at l 2 ((length l - 2) / 2))) None

-- a letter that stands alone
abbrev pub alone : List ℕ → Call → Option Call
alone l c = cond (length l == 1) (Some c) None

-- the command that a line is: its letter chooses
abbrev pub command_of : List ℕ → Option Call
command_of l =
    let c = slice_index_or l 0 0 in
    cond (c == 87) (write_line l)
    (cond (c == 82) (read_register l)
    (cond (c == 66) (burst_line l)
    (cond (c == 71) (run_line l)
    (cond (c == 88) (alone l stop)
    (cond (c == 83) (alone l status)
    (cond (c == 77) (memory_line l) None))))))
