-- The tokens that have a meaning of their own, and names (SPEC 8.2; document 01). Every comparison of names that is computed goes through
-- `same_name`, which holds exactly if their bytes are the same in lower case (`same-token`, Keys).
use Rattle.std.specs.Prelude.{ℕ, ◌%◌, Bool, not, ◌&&◌, ◌||◌, List, [], ◌∷◌, eqb}
use Rattle.base.specs.Bytes.{byte_values}
use Rattle.tokens.specs.Bytes.{lower, key}

-- What stands in a token's place: at the end of the text, and for what is no token. Every token is greater.
abbrev pub end : ℕ
end = 0

abbrev pub wrong : ℕ
wrong = 1

-- "Words that are not names: vars funs tests skip assume assert if else while result truth." (SPEC 8.2; document 02, request 4: "the three words
-- leave the names")
abbrev pub vars_key : ℕ
vars_key = key (118 ∷ 97 ∷ 114 ∷ 115 ∷ [])

abbrev pub funs_key : ℕ
funs_key = key (102 ∷ 117 ∷ 110 ∷ 115 ∷ [])

abbrev pub tests_key : ℕ
tests_key = key (116 ∷ 101 ∷ 115 ∷ 116 ∷ 115 ∷ [])

abbrev pub skip_key : ℕ
skip_key = key (115 ∷ 107 ∷ 105 ∷ 112 ∷ [])

abbrev pub assume_key : ℕ
assume_key = key (97 ∷ 115 ∷ 115 ∷ 117 ∷ 109 ∷ 101 ∷ [])

abbrev pub assert_key : ℕ
assert_key = key (97 ∷ 115 ∷ 115 ∷ 101 ∷ 114 ∷ 116 ∷ [])

abbrev pub if_key : ℕ
if_key = key (105 ∷ 102 ∷ [])

abbrev pub else_key : ℕ
else_key = key (101 ∷ 108 ∷ 115 ∷ 101 ∷ [])

abbrev pub while_key : ℕ
while_key = key (119 ∷ 104 ∷ 105 ∷ 108 ∷ 101 ∷ [])

-- the words of the hidden registers, with their bytes, for lines print them
abbrev pub result_word : List ℕ
result_word = 114 ∷ 101 ∷ 115 ∷ 117 ∷ 108 ∷ 116 ∷ []

abbrev pub result_key : ℕ
result_key = key result_word

abbrev pub truth_word : List ℕ
truth_word = 116 ∷ 114 ∷ 117 ∷ 116 ∷ 104 ∷ []

abbrev pub truth_key : ℕ
truth_key = key truth_word

abbrev pub keyword : ℕ → Bool
keyword k =
    eqb k vars_key || eqb k funs_key || eqb k tests_key || eqb k skip_key || eqb k assume_key || eqb k assert_key || eqb k if_key || eqb k else_key
    || eqb k while_key || eqb k result_key || eqb k truth_key

-- "Tokens: names, `1`, `2`, `:=`, `=`, `!=`, `!`, `;`, `,`, `(`, `)`, `{`, `}`, `/`." (SPEC 8.2; document 02, request 4: "`!` becomes a token")
abbrev pub one_key : ℕ
one_key = key (49 ∷ [])

abbrev pub two_key : ℕ
two_key = key (50 ∷ [])

abbrev pub becomes_key : ℕ
becomes_key = key (58 ∷ 61 ∷ [])

abbrev pub equal_key : ℕ
equal_key = key (61 ∷ [])

abbrev pub unequal_key : ℕ
unequal_key = key (33 ∷ 61 ∷ [])

abbrev pub not_key : ℕ
not_key = key (33 ∷ [])

abbrev pub semicolon_key : ℕ
semicolon_key = key (59 ∷ [])

abbrev pub comma_key : ℕ
comma_key = key (44 ∷ [])

abbrev pub lparen_key : ℕ
lparen_key = key (40 ∷ [])

abbrev pub rparen_key : ℕ
rparen_key = key (41 ∷ [])

abbrev pub lbrace_key : ℕ
lbrace_key = key (123 ∷ [])

abbrev pub rbrace_key : ℕ
rbrace_key = key (125 ∷ [])

abbrev pub slash_key : ℕ
slash_key = key (47 ∷ [])

-- A token is a name if it begins with a letter and is none of the words; a token that begins so goes on as a name does (SPEC 8.2).
-- Its number is that of its bytes in lower case.
abbrev pub is_name : ℕ → Bool
is_name k = lower (k % byte_values) && not (keyword k)

-- When two names are the same (SPEC 8.4).
abbrev pub same_name : ℕ → ℕ → Bool
same_name k l = eqb k l
