-- The numbers of the refusals of a macro (SPEC 11.3, 11.4; document 01, and 15 and 16 document 02), each with its question. 6 is that of a trace too:
-- RefusalNumbers.
use Rattle.std.specs.Prelude.{ℕ}

-- Of a macro. "At most 4,096 bytes? 7." (SPEC 11.3)
abbrev pub text_too_long : ℕ
text_too_long = 7

-- "a token, and no name over eight bytes? 8." (SPEC 11.4)
abbrev pub token_malformed : ℕ
token_malformed = 8

-- "Fits the grammar? 9 (at the text's length if it ends early)." (SPEC 11.4)
abbrev pub grammar_violated : ℕ
grammar_violated = 9

-- "Within eight registers and four functions, each name declared once? 10." (SPEC 11.4)
abbrev pub declaration_wrong : ℕ
declaration_wrong = 10

-- "A use declared, of the right sort? 11." (SPEC 11.4)
abbrev pub use_wrong : ℕ
use_wrong = 11

-- "Braces at most 16 deep? 12." (SPEC 11.4)
abbrev pub nesting_too_deep : ℕ
nesting_too_deep = 12

-- "Then: at most 256 points? 13." (SPEC 11.3)
abbrev pub points_too_many : ℕ
points_too_many = 13

-- "Table suffices? 14." (SPEC 11.3)
abbrev pub table_too_small : ℕ
table_too_small = 14

-- Of the house layout: "15, given last, when the print passes the lent buffer or 4,096 bytes" (SPEC 11.3; document 02, request 2)
abbrev pub print_too_long : ℕ
print_too_long = 15

-- "16, at the word `tests`, when more than six registers were declared" (SPEC 11.4; document 02, request 4)
abbrev pub no_room_for_tests : ℕ
no_room_for_tests = 16
