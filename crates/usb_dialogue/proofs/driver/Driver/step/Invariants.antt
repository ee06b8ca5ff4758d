use Rattle.usb_dialogue.proofs.driver.Driver.step.Given as goal

-- the call begins here
abbrev pub ghosts-called : goal.ghosts-called
ghosts-called a = record { statuses = a.statuses; answers = a.heard.items; roots = a.roots }

abbrev pub ghosts-opened : goal.ghosts-opened
ghosts-opened a = record { statuses = a.statuses; answers = a.heard.items; roots = a.roots }
