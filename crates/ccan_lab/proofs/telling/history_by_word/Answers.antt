use Rattle.ccan_lab.proofs.telling.history_by_word.Goals as goal

pub history_of-requires-clause-machine : goal.history_of-requires-clause-machine
history_of-requires-clause-machine g c = c.requires.can.machine

pub history_of-requires-clause-words : goal.history_of-requires-clause-words
history_of-requires-clause-words g c = c.requires.can.made

pub history_of-requires-clause-word : goal.history_of-requires-clause-word
history_of-requires-clause-word g c = c.requires.said
