use Rattle.library_tests.proofs.offset_index_tests.few_are_found_and_holes_are_not.Given as goal

abbrev pub ghosts-look_in_few : goal.ghosts-look_in_few
ghosts-look_in_few g a = record { name = a.blank.name; parts = a.blank.parts }
