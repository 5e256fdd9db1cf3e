-- The bytes that a script is cut at: ASCII, and the MySQL 8.0 manual, 9.1 and 9.7.
use Rattle.std.specs.Prelude.{ℕ, Bool, ◌||◌, ◌&&◌, ◌==◌, nat_le}
use Rattle.std.specs.Char.{is_ascii_alphabetic, is_ascii_alphanumeric}

abbrev pub nul : ℕ
nul = 0x00

abbrev pub backspace : ℕ
backspace = 0x08

abbrev pub tab : ℕ
tab = 0x09

abbrev pub line_feed : ℕ
line_feed = 0x0A

abbrev pub carriage_return : ℕ
carriage_return = 0x0D

abbrev pub substitute : ℕ
substitute = 0x1A

abbrev pub space : ℕ
space = 0x20

-- Space, TAB, LF, VT, FF or CR.
abbrev pub is_space : ℕ → Bool
is_space byte = byte == space || (nat_le tab byte && nat_le byte carriage_return)

abbrev pub exclamation : ℕ
exclamation = 0x21

abbrev pub double_quote : ℕ
double_quote = 0x22

abbrev pub number_sign : ℕ
number_sign = 0x23

abbrev pub single_quote : ℕ
single_quote = 0x27

abbrev pub left_paren : ℕ
left_paren = 0x28

abbrev pub right_paren : ℕ
right_paren = 0x29

abbrev pub star : ℕ
star = 0x2A

abbrev pub percent : ℕ
percent = 0x25

abbrev pub plus : ℕ
plus = 0x2B

abbrev pub comma : ℕ
comma = 0x2C

abbrev pub dash : ℕ
dash = 0x2D

abbrev pub dot : ℕ
dot = 0x2E

abbrev pub slash : ℕ
slash = 0x2F

abbrev pub digit_zero : ℕ
digit_zero = 0x30

abbrev pub capital_n : ℕ
capital_n = 0x4E

abbrev pub capital_x : ℕ
capital_x = 0x58

abbrev pub capital_z : ℕ
capital_z = 0x5A

abbrev pub small_b : ℕ
small_b = 0x62

abbrev pub small_n : ℕ
small_n = 0x6E

abbrev pub small_r : ℕ
small_r = 0x72

abbrev pub small_t : ℕ
small_t = 0x74

abbrev pub semicolon : ℕ
semicolon = 0x3B

abbrev pub less : ℕ
less = 0x3C

abbrev pub equals : ℕ
equals = 0x3D

abbrev pub greater : ℕ
greater = 0x3E

abbrev pub backslash : ℕ
backslash = 0x5C

abbrev pub underscore : ℕ
underscore = 0x5F

abbrev pub backquote : ℕ
backquote = 0x60

abbrev pub dollar : ℕ
dollar = 0x24

abbrev pub small_x : ℕ
small_x = 0x78

-- `N` or `n`.
abbrev pub is_letter_n : ℕ → Bool
is_letter_n byte = byte == capital_n || byte == small_n

-- `X` or `x`.
abbrev pub is_letter_x : ℕ → Bool
is_letter_x byte = byte == capital_x || byte == small_x

-- A letter or `_`.
abbrev pub begins_word : ℕ → Bool
begins_word byte = is_ascii_alphabetic byte || byte == underscore

-- A letter, a digit, `_` or `$`.
abbrev pub continues_word : ℕ → Bool
continues_word byte = is_ascii_alphanumeric byte || byte == underscore || byte == dollar
