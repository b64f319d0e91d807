-- The limits of what a log has.
use Rattle.std.specs.Prelude.{ℕ}

-- the greatest index, base and generation that there is
abbrev pub index_limit : ℕ
index_limit = 281474976710655

-- the greatest number of bytes of a key and of a word
abbrev pub key_limit : ℕ
key_limit = 255

abbrev pub word_limit : ℕ
word_limit = 4096

-- the greatest number of words and of indexes of a reply
abbrev pub words_limit : ℕ
words_limit = 16

abbrev pub indexes_limit : ℕ
indexes_limit = 64
