-- Cited by the contracts of text_of and of the calls.
-- The statuses by their numbers, and their texts.
use Rattle.std.specs.Prelude.{ℕ, ℤ, pos, List, [], ◌∷◌, codes, get_or}

abbrev pub ok : ℤ
ok = pos 0

abbrev pub bad_line : ℤ
bad_line = pos 1

abbrev pub closed : ℤ
closed = pos 2

abbrev pub already_open : ℤ
already_open = pos 3

abbrev pub not_utf8 : ℤ
not_utf8 = pos 4

abbrev pub out_of_memory : ℤ
out_of_memory = pos 5

abbrev pub no_entry : ℤ
no_entry = pos 7

abbrev pub bad_entry : ℤ
bad_entry = pos 8

abbrev pub not_next : ℤ
not_next = pos 9

abbrev pub waiting : ℤ
waiting = pos 10

abbrev pub finished : ℤ
finished = pos 11

abbrev pub bad_count : ℤ
bad_count = pos 12

abbrev pub moment_too_large : ℤ
moment_too_large = pos 13

abbrev pub versions_spent : ℤ
versions_spent = pos 14

abbrev pub bad_code : ℤ
bad_code = pos 17

abbrev pub bad_table : ℤ
bad_table = pos 18

abbrev pub bad_length : ℤ
bad_length = pos 19

abbrev pub no_table : ℤ
no_table = pos 20

abbrev pub not_public : ℤ
not_public = pos 21

abbrev pub wrong_type : ℤ
wrong_type = pos 22

abbrev pub too_many_ops : ℤ
too_many_ops = pos 23

abbrev pub view_mismatch : ℤ
view_mismatch = pos 24

abbrev pub bad_lease : ℤ
bad_lease = pos 25

abbrev pub lease_ended : ℤ
lease_ended = pos 26

abbrev pub wrong_schema : ℤ
wrong_schema = pos 27

abbrev pub conflict : ℤ
conflict = pos 28

abbrev pub duplicate : ℤ
duplicate = pos 29

abbrev pub no_row : ℤ
no_row = pos 30

abbrev pub too_early : ℤ
too_early = pos 31

abbrev pub unknown : ℤ
unknown = pos 32

abbrev pub not_adjacent : ℤ
not_adjacent = pos 33

abbrev pub wrong_way : ℤ
wrong_way = pos 34

abbrev pub dependent : ℤ
dependent = pos 35

abbrev pub name_taken : ℤ
name_taken = pos 36

abbrev pub over_limit : ℤ
over_limit = pos 37

abbrev pub unfinished : ℤ
unfinished = pos 38

abbrev pub not_wanted : ℤ
not_wanted = pos 39

abbrev pub still_used : ℤ
still_used = pos 40

abbrev pub begun : ℤ
begun = pos 41

abbrev pub bad_piece : ℤ
bad_piece = pos 42

abbrev pub spent : ℤ
spent = pos 43

abbrev pub wrong_element : ℤ
wrong_element = pos 44

abbrev pub moved : ℤ
moved = pos 45

abbrev pub in_change : ℤ
in_change = pos 46

abbrev pub too_far : ℤ
too_far = pos 47

-- the text of each, in the order of their numbers; 6, 15 and 16 are none
abbrev pub texts : List (List ℕ)
texts =
    codes "ok" ∷
    codes "bad line" ∷
    codes "the handle is closed" ∷
    codes "the handle is open already" ∷
    codes "the line is not UTF-8" ∷
    codes "out of memory" ∷
    codes "no status" ∷
    codes "the log has no such place" ∷
    codes "the bytes are the code of no entry" ∷
    codes "no call of this world would add the entry" ∷
    codes "changes are under way, and nothing can be done yet" ∷
    codes "no change is under way" ∷
    codes "the pieces are not 1 to 64, or the limit is not 1 to 1,000" ∷
    codes "the moment is above 2^62" ∷
    codes "no version is left" ∷
    codes "no status" ∷
    codes "no status" ∷
    codes "the bytes are no code of what they should be" ∷
    codes "the declaration breaks a limit, or uses a name twice" ∷
    codes "the lease length is not from 1 to 2^32" ∷
    codes "no such table" ∷
    codes "a named column is not a public column of its table" ∷
    codes "a value of another type, or a column named twice" ∷
    codes "more than 64 operations" ∷
    codes "what was read is not what the transaction reads" ∷
    codes "no grant could have given the lease" ∷
    codes "the lease has ended" ∷
    codes "prepared under another schema than that of the lease's version" ∷
    codes "a pair changed since it was read" ∷
    codes "a row of this key is there" ∷
    codes "no row of this key is there" ∷
    codes "the newest version has not been the newest for a full lease length" ∷
    codes "no such table, element or column" ∷
    codes "no move joins the two states" ∷
    codes "a move of the other way" ∷
    codes "another element stands against it" ∷
    codes "the name is taken" ∷
    codes "a name, a list, a default or a count is over its limit" ∷
    codes "a reorganisation that the step needs is not finished" ∷
    codes "the element wants no reorganisation, or none has begun" ∷
    codes "the version before may still be used" ∷
    codes "the reorganisation has begun" ∷
    codes "no such piece" ∷
    codes "the piece has ended" ∷
    codes "the piece is not one of the element's reorganisation" ∷
    codes "the piece has moved since it was read" ∷
    codes "an element that a change names is in change" ∷
    codes "the moment is further beyond that of the last entry than the world allows" ∷
    []

abbrev pub no_text : List ℕ
no_text = codes "no status"

abbrev pub status_text : ℤ → List ℕ
status_text (pos n) = get_or texts n no_text
status_text _ = no_text
