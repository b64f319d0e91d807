use Rattle.library_tests.proofs.offset_index_tests.every_third_of_three_thousand_is_found.Given as goal

abbrev pub ghosts-look_in_a_thousand : goal.ghosts-look_in_a_thousand
ghosts-look_in_a_thousand g a = record { name = a.blank.name; parts = a.blank.parts }
