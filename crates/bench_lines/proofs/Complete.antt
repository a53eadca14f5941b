-- The spelling of each call reads back as that call.
use Rattle.std.proofs.Common.{◌≡◌, ℕ, ◌+◌, ◌-◌, ◌*◌, ◌/◌, ◌%◌, ◌<◌, ◌≤◌, List, [], ◌∷◌, length, get_or, drop, Some, sym, refl, ap, ◌∙◌, add-zero, arith}
use Rattle.std.proofs.lemmas.List.{get_or-drop, drop-drop}
use Rattle.panel_calls.specs.Calls.{Call, write, read, burst, run, stop, status, memory}
use Rattle.bench_lines.proofs.Bursts.{burst_shaped}
use Rattle.std.specs.List.{flat_map, AllByRecursion}
use Rattle.bench_lines.specs.Answers.{digit, hex_byte}
use Rattle.bench_lines.specs.Commands.{command_of, as_burst, with_first, bytes_at}
use Rattle.bench_lines.specs.Spelling.{spelled, Sayable}
use Rattle.bench_lines.proofs.Fields.{byte_reads}

write_back : (r v : ℕ) → r < 256 → v < 256 → command_of (spelled (write r v)) ≡ Some (write r v)
write_back r v h k =
    let x = byte_reads (spelled (write r v)) 2 r h refl refl in
    let y = byte_reads (spelled (write r v)) 5 v k refl refl in grind arith

read_back : (r : ℕ) → r < 256 → command_of (spelled (read r)) ≡ Some (read r)
read_back r h = let x = byte_reads (spelled (read r)) 2 r h refl refl in grind arith

run_back : (n : ℕ) → n < 65536 → command_of (spelled (run n)) ≡ Some (run n)
run_back n h =
    let l = spelled (run n) in
    let x = byte_reads l 2 (n / 256) (omega arith) (grind arith) refl in
    let y = byte_reads l 4 (n % 256) (omega arith) (grind arith) (grind arith) in grind arith

memory_back : (n : ℕ) → n < 16777216 → command_of (spelled (memory n)) ≡ Some (memory n)
memory_back n h =
    let l = spelled (memory n) in
    let x = byte_reads l 2 (n / 65536) (omega arith) refl refl in
    let y = byte_reads l 4 (n / 256 % 256) (omega arith) (grind arith) (grind arith) in
    let z = byte_reads l 6 (n % 256) (omega arith) (grind arith) (grind arith) in grind arith

-- the bytes that the digits from a place on spell
bytes_back : (l : List ℕ) (k : ℕ) (bs : List ℕ) → AllByRecursion (λ b. b < 256) bs → drop k l ≡ flat_map hex_byte bs → bytes_at l k (length bs) ≡ Some bs
bytes_back l k [] h e = refl
bytes_back l k (b ∷ bs) h e =
    let high : get_or l k 0 ≡ digit (b / 16 % 16) = ap (λ i. get_or l i 0) (sym (add-zero k)) ∙ sym (get_or-drop k l 0 0) ∙ ap (λ t. get_or t 0 0) e in
    let low : get_or l (k + 1) 0 ≡ digit (b % 16) = sym (get_or-drop k l 1 0) ∙ ap (λ t. get_or t 1 0) e in
    let x = byte_reads l k b h.0 high low in
    let rest = bytes_back l (k + 2) bs h.1 (sym (drop-drop 2 k l) ∙ ap (drop 2) e) in
    ap (λ o. with_first o (bytes_at l (k + 2) (length bs))) x ∙ ap (with_first (Some b)) rest

length_digits : (bs : List ℕ) → length (flat_map hex_byte bs) ≡ 2 * length bs
length_digits [] = refl
length_digits (b ∷ bs) = let e = length_digits bs in omega arith

burst_back : (bs : List ℕ) → 1 ≤ length bs → length bs ≤ 32 → AllByRecursion (λ b. b < 256) bs → command_of (spelled (burst bs)) ≡ Some (burst bs)
burst_back bs low high each =
    let l = spelled (burst bs) in
    let e = length_digits bs in
    let count : (length l - 2) / 2 ≡ length bs = omega arith in
    burst_shaped l (omega arith) (omega arith) (omega arith) refl ∙ ap (λ n. as_burst (bytes_at l 2 n)) count
    ∙ ap as_burst (bytes_back l 2 bs each refl)

pub reads_back : (c : Call) → Sayable c → command_of (spelled c) ≡ Some c
reads_back (write r v) h = write_back r v h.0 h.1
reads_back (read r) h = read_back r h
reads_back (burst bs) h = burst_back bs h.0 h.1 h.2
reads_back (run n) h = run_back n h
reads_back stop h = refl
reads_back status h = refl
reads_back (memory a) h = memory_back a h
