-- Tokens of small texts (SPEC 8.2): letters of either case, what is no letter, what a declared name is spelled as, `!` and `!=`, and the words that are
-- no names. Bytes are ASCII codes.
use mathlib.Core.Path.{◌≡◌, refl}
use mathlib.Core.Bool.{true, false}
use mathlib.Core.List.{[], ◌∷◌}
use Rattle.tokens.specs.Bytes.{lowered, gap, name_length, width, key, spelling}
use Rattle.tokens.specs.Words.{is_name, same_name}
use Rattle.tokens.specs.Words as word
use Rattle.tokens.specs.Tokens.{token, token_at, spellings}

-- `A` and `Z`, and the bytes next to them: `@` and `[`, which a wider rule would make a grave accent and `{`
first_capital : lowered 65 ≡ 97
first_capital = refl

last_capital : lowered 90 ≡ 122
last_capital = refl

before_capitals : lowered 64 ≡ 64
before_capitals = refl

behind_capitals : lowered 91 ≡ 91
behind_capitals = refl

-- `CaP` is the name `cap`, spelled as it stands
capitals_read : token_at (67 ∷ 97 ∷ 80 ∷ []) 0 ≡ token (key (99 ∷ 97 ∷ 112 ∷ [])) (spelling (67 ∷ 97 ∷ 80 ∷ [])) 0 3
unfolding token_at gap width name_length
capitals_read = refl

capitals_name : is_name (key (67 ∷ 97 ∷ 80 ∷ [])) ≡ true
capitals_name = refl

-- `iF` is a word, and no name
word_read : (token_at (105 ∷ 70 ∷ []) 0).key ≡ word.if_key
unfolding token_at gap width name_length
word_read = refl

word_no_name : is_name (key (105 ∷ 70 ∷ [])) ≡ false
word_no_name = refl

-- `cap` and `cup` are two names
names_differ : same_name (key (99 ∷ 97 ∷ 112 ∷ [])) (key (99 ∷ 117 ∷ 112 ∷ [])) ≡ false
names_differ = refl

-- `abcdefGHI` has nine bytes, and `[` and the byte 17 are no tokens
nine_letters : (token_at (97 ∷ 98 ∷ 99 ∷ 100 ∷ 101 ∷ 102 ∷ 71 ∷ 72 ∷ 73 ∷ []) 0).key ≡ word.wrong
unfolding token_at gap width name_length
nine_letters = refl

bracket : (token_at (91 ∷ []) 0).key ≡ word.wrong
unfolding token_at gap width name_length
bracket = refl

control : (token_at (17 ∷ []) 0).key ≡ word.wrong
unfolding token_at gap width name_length
control = refl

-- `vars Xx Y;`: the two tokens behind `vars` as they are spelled
both_spelled : spellings (118 ∷ 97 ∷ 114 ∷ 115 ∷ 32 ∷ 88 ∷ 120 ∷ 32 ∷ 89 ∷ 59 ∷ []) 4 1 2 ≡ spelling (88 ∷ 120 ∷ []) ∷ spelling (89 ∷ []) ∷ []
unfolding spellings token_at gap width name_length
both_spelled = refl

-- `a ! = b`: with a blank between them `!` and `=` are two tokens, and the text ends behind `b`
apart_spelled : spellings (97 ∷ 32 ∷ 33 ∷ 32 ∷ 61 ∷ 32 ∷ 98 ∷ []) 0 1 5
    ≡ spelling (97 ∷ []) ∷ word.not_key ∷ word.equal_key ∷ spelling (98 ∷ []) ∷ word.end ∷ []
unfolding spellings token_at gap width name_length
apart_spelled = refl

-- `a!=b`: side by side they are one token
unequal_spelled : spellings (97 ∷ 33 ∷ 61 ∷ 98 ∷ []) 0 1 4 ≡ spelling (97 ∷ []) ∷ word.unequal_key ∷ spelling (98 ∷ []) ∷ word.end ∷ []
unfolding spellings token_at gap width name_length
unequal_spelled = refl

-- `!hot`: `!` and the name behind it
negated_spelled : spellings (33 ∷ 104 ∷ 111 ∷ 116 ∷ []) 0 1 3 ≡ word.not_key ∷ spelling (104 ∷ 111 ∷ 116 ∷ []) ∷ word.end ∷ []
unfolding spellings token_at gap width name_length
negated_spelled = refl

negated_name : is_name (token_at (33 ∷ 104 ∷ 111 ∷ 116 ∷ []) 1).key ≡ true
unfolding token_at gap width name_length
negated_name = refl

-- `!` as the last byte of a text is a token of one byte
negation_last : token_at (33 ∷ []) 0 ≡ token word.not_key word.not_key 0 1
unfolding token_at gap width name_length
negation_last = refl

-- `:` alone, and with a blank before its `=`, is no token
colon_last : (token_at (58 ∷ []) 0).key ≡ word.wrong
unfolding token_at gap width name_length
colon_last = refl

colon_apart : (token_at (58 ∷ 32 ∷ 61 ∷ []) 0).key ≡ word.wrong
unfolding token_at gap width name_length
colon_apart = refl

-- `tests`, `Result` and `TRUTH` are words, and no names
tests_read : (token_at (116 ∷ 101 ∷ 115 ∷ 116 ∷ 115 ∷ []) 0).key ≡ word.tests_key
unfolding token_at gap width name_length
tests_read = refl

tests_no_name : is_name word.tests_key ≡ false
tests_no_name = refl

result_read : (token_at (82 ∷ 101 ∷ 115 ∷ 117 ∷ 108 ∷ 116 ∷ []) 0).key ≡ word.result_key
unfolding token_at gap width name_length
result_read = refl

result_no_name : is_name word.result_key ≡ false
result_no_name = refl

truth_read : (token_at (84 ∷ 82 ∷ 85 ∷ 84 ∷ 72 ∷ []) 0).key ≡ word.truth_key
unfolding token_at gap width name_length
truth_read = refl

truth_no_name : is_name word.truth_key ≡ false
truth_no_name = refl

-- `test` and `result1`, a byte less and a byte more, are names
test_name : is_name (token_at (116 ∷ 101 ∷ 115 ∷ 116 ∷ []) 0).key ≡ true
unfolding token_at gap width name_length
test_name = refl

result1_name : is_name (token_at (114 ∷ 101 ∷ 115 ∷ 117 ∷ 108 ∷ 116 ∷ 49 ∷ []) 0).key ≡ true
unfolding token_at gap width name_length
result1_name = refl
