-- Binary digits of a number: Knuth, The Art of Computer Programming, 6.2.1, of binary search.
use Rattle.std.specs.Prelude.{ℕ, zero, suc, ◌/◌, ◌==◌, if◌then◌else◌}

-- the binary digits of a number that has at most so many: halving it takes the last one away
unfoldable pub digits_within : (most n : ℕ) → ℕ
digits_within zero n = 0
digits_within (suc most) n = if n == 0 then 0 else suc (digits_within most (n / 2))

-- how many binary digits a number has; 0 has none
abbrev pub binary_digits : ℕ → ℕ
binary_digits n = digits_within n n
