-- The digits that an answer's numbers are printed with.
use Rattle.std.proofs.Common.{◌≡◌, ℕ, suc, ◌+◌, ◌/◌, ◌%◌, ◌^◌, ◌-◌, ◌<◌, ◌≤◌, true, false, eqb, List, [], ◌∷◌, ◌++◌, ⊎_elim, ap, ◌∙◌, arith}
use Rattle.std.proofs.lemmas.Bool.{cond-true, cond-false, eq-eqb, ne_eqb, cases_lt}
use Rattle.std.proofs.lemmas.Fmt.{hex_one_digit, hex_two_digits, decimal_digit, decimal_step}
use Rattle.std.proofs.lemmas.Fmt as printed
use Rattle.std.specs.Fmt.{digits, digits_onto, padded_integral, format_spec, char_count}
use Rattle.std.specs.Fmt as std
use Rattle.refusal.specs.Numbers.{number_of}
use Rattle.refusal.specs.declared.Refusal.{Refusal}
use Rattle.bench_lines.specs.Answers.{digit, hex_byte, hex_count, decimal}

-- `{:02X}` of a byte
pub byte_printed : (b : ℕ) → b < 256 → padded_integral (format_spec 32 0 4 2 (2 ^ 64 - 1)) false [] (digits 16 true b) ≡ hex_byte b
byte_printed b small =
    let high : b / 16 ≡ b / 16 % 16 = omega arith in
    printed.hex_byte true b small ∙ ap (λ d. digit d ∷ digit (b % 16) ∷ []) high

more : (k n : ℕ) (ds : List ℕ) → 16 ≤ n → digits_onto (suc k) 16 true n ds ≡ digits_onto k 16 true (n / 16) (digit (n % 16) ∷ ds)
more k n ds h = cond-false (eqb (n / 16) 0) _ _ (ne_eqb (n / 16) 0 (λ e. omega arith))

last : (k n : ℕ) (ds : List ℕ) → n < 16 → digits_onto (suc k) 16 true n ds ≡ digit n ∷ ds
last k n ds h =
    let same : n % 16 ≡ n = omega arith in
    cond-true (eqb (n / 16) 0) _ _ (eq-eqb (n / 16) 0 (omega arith)) ∙ ap (λ d. digit d ∷ ds) same

three : (n : ℕ) → 256 ≤ n → n < 4096 → digits 16 true n ≡ digit (n / 16 / 16) ∷ digit (n / 16 % 16) ∷ digit (n % 16) ∷ []
unfolding digits
three n low high = more 63 n [] (omega arith) ∙ more 62 (n / 16) _ (omega arith) ∙ last 61 (n / 16 / 16) _ (omega arith)

four : (n : ℕ) → 4096 ≤ n → n < 65536 → digits 16 true n ≡ digit (n / 16 / 16 / 16) ∷ digit (n / 16 / 16 % 16) ∷ digit (n / 16 % 16) ∷ digit (n % 16) ∷ []
unfolding digits
four n low high =
    more 63 n [] (omega arith) ∙ more 62 (n / 16) _ (omega arith) ∙ more 61 (n / 16 / 16) _ (omega arith) ∙ last 60 (n / 16 / 16 / 16) _ (omega arith)

low_digits : (n : ℕ) → n % 65536 < 65536
low_digits n = omega arith

-- `{:04X}` of the lowest four digits
pub count_printed : (n : ℕ) → padded_integral (format_spec 32 0 4 4 (2 ^ 64 - 1)) false [] (digits 16 true (n % 65536)) ≡ hex_count n
unfolding padded_integral char_count
count_printed n =
    let m = n % 65536 in ⊎_elim
    (λ one. rw (hex_one_digit true m one) (grind arith))
    (λ two. ⊎_elim
    (λ below. rw (hex_two_digits true m two below) (grind arith))
    (λ three_or_more. ⊎_elim
    (λ below. rw (three m three_or_more below) (grind arith))
    (λ above. rw (four m above (low_digits n)) (grind arith))
    (cases_lt m 4096)) (cases_lt m 256)) (cases_lt m 16)

small_number : (r : Refusal) → number_of r < 100
small_number r = grind arith

tens : (n : ℕ) → 10 ≤ n → n < 100 → std.decimal n ≡ (48 + n / 10) ∷ (48 + n % 10) ∷ []
tens n low high = decimal_step n low (omega arith) ∙ ap (λ ds. ds ++ (48 + n % 10) ∷ []) (decimal_digit (n / 10) (omega arith))

-- `{:02}` of a number with two digits at most
two_printed : (n : ℕ) → n < 100 → std.styled_decimal (format_spec 32 0 4 2 (2 ^ 64 - 1)) n ≡ decimal n
unfolding padded_integral char_count
two_printed n h = ⊎_elim (λ one. rw (decimal_digit n one) (grind arith)) (λ two. rw (tens n two h) (grind arith)) (cases_lt n 10)

-- `{:02}` of a refusal's number
pub number_printed : (r : Refusal) → std.styled_decimal (format_spec 32 0 4 2 (2 ^ 64 - 1)) (number_of r) ≡ decimal (number_of r)
number_printed r = two_printed (number_of r) (small_number r)
