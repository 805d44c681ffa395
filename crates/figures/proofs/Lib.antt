mod Computed
mod OneLetter
mod Comparisons
mod OwnForms
mod Forms
mod Worked
