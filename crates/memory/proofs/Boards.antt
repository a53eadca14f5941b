-- What a board of bytes shows.
use Rattle.std.proofs.Common.{◌≡◌, ℕ, ◌<◌, ◌≤◌, min, List, ◌++◌, length, get_or, take, drop, replicate, sym, ap, ◌∙◌, length-append, length-take, length-drop, arith, lit<}
use Rattle.std.proofs.lemmas.List.{ext_get_or, length-replicate, get_or-replicate, get_or-take, take_at}
use Rattle.memory.specs.View.{view_at, view_length}
use Rattle.memory.specs.Boards.{of_bytes, bytes_plain}

-- how many bytes a block shows
pub bytes_length : (bs : List ℕ) → length (of_bytes bs) ≡ min 16777216 (length bs)
bytes_length bs = ap length (bytes_plain bs) ∙ view_length (min 16777216 (length bs)) (λ k. get_or bs k 0)

-- a block of zero bytes shows zero bytes
pub bytes_zero : (n : ℕ) → n ≤ 16777216 → of_bytes (replicate n 0) ≡ replicate n 0
bytes_zero n h =
    let zs : List ℕ = replicate n 0 in
    let long = bytes_length zs in
    let all : length zs ≡ n = length-replicate n 0 in
    let same : length (of_bytes zs) ≡ length zs = omega arith in
    ext_get_or 0 (of_bytes zs) zs same
    (λ k in'. let in'' : k < n = omega arith in
    ap (λ m. get_or m k 0) (bytes_plain zs) ∙ view_at (min 16777216 (length zs)) (λ i. get_or zs i 0) k (omega arith) (rw (get_or-replicate {A = ℕ} n k 0 0 in'') (lit< tt)))

-- a block of bytes shows as many of them as display memory has
pub bytes_shown : (bs : List ℕ) (n : ℕ) → n ≡ min (length bs) 16777216 → ((k : ℕ) → get_or bs k 0 < 256) → of_bytes bs ≡ take n bs
bytes_shown bs n most fits =
    let long = bytes_length bs in
    let front = length-take n bs in
    ext_get_or 0 (of_bytes bs) (take n bs) (omega arith)
    (λ k in'.
    ap (λ m. get_or m k 0) (bytes_plain bs)
    ∙ view_at (min 16777216 (length bs)) (λ i. get_or bs i 0) k (omega arith) (fits k)
    ∙ sym (get_or-take n bs k 0 (omega arith)))

-- and where those are replaced, what they are replaced by
pub bytes_replaced : (bs new : List ℕ) (n : ℕ) → n ≡ min (length bs) 16777216 → length new ≡ n → ((k : ℕ) → get_or (new ++ drop n bs) k 0 < 256)
    → of_bytes (new ++ drop n bs) ≡ new
bytes_replaced bs new n most long fits =
    let all = length-append new (drop n bs) in
    let rest = length-drop n bs in
    bytes_shown (new ++ drop n bs) n (omega arith) fits ∙ take_at new (drop n bs) n long
